-- Where files are told, gathering ends in some way: each answered request leaves fewer of them, or adds a file.
use Rattle.std.proofs.Common.{◌≡◌, ℕ, zero, suc, ◌+◌, ◌<◌, ◌≤◌, List, [], ◌∷◌, ◌++◌, length, map, Bool, true, false, cond, refl, sym, ◌∙◌, ap, subst, inl, inr, ◌⊎◌, arith, length-append, append_assoc, append-nil, Result, Ok, Err}
use Rattle.std.specs.Prelude.{All, IsSome, is_some, nat_le, slice_index_or}
use Rattle.std.proofs.lemmas.List.Elements.{All-head}
use Rattle.std.proofs.Math.Seq.{get_or-append_seam}
use Rattle.p10_base.specs.declared.report.TheConstants.Limit.{FILES, MOST_NESTED_INCLUDES}
use Rattle.p10_base.specs.Gathered.{Gathered, count_of, root_count, candidate_of, with_file, with_link}
use Rattle.p10_base.specs.declared.word.WordPlace.{WordPlace}
use Rattle.p10_base.specs.Words.{Text, place_of_word}
use Rattle.p10_expand.specs.declared.fault.GatherFault.{GatherFault}
use Rattle.p10_expand.specs.declared.fault.GatherFault.TheVariants.{RootAbsent, Refused, Over}
use Rattle.p10_expand.specs.declared.place.Include.{Include}
use Rattle.p10_expand.specs.declared.place.Place.{Place}
use Rattle.p10_expand.specs.declared.place.Place.TheVariants.{File}
use Rattle.p10_expand.specs.declared.gathering.Known.{Known}
use Rattle.p10_expand.specs.Finding.{name_at, is_header_place, HasText, IsThere, IsAbsent}
use Rattle.p10_expand.specs.Gathering.{Setting, Request, Root, Line, Moment, sought_places, lines_of, beginning, IsNew, HasRoom, noted, found, added, Finds, Answered, Reached, EndsAt, IsEnding}
use Rattle.p10_expansion_laws.specs.Existing.{GatheringEnds}
use Rattle.p10_expansion_laws.proofs.FilesThere.{first_or_none, text_at, met_or_new, room_or_full, IsLexed, lexed_there, includes_there}
use Rattle.p10_expansion_laws.proofs.Slots.{slots_of, one_slot_less}

-- ## The next request

-- what comes of the next request, for which there is a file
data Step (s : Setting) (m : Moment) (request : Request) (rest : List Request) : Type 0 where
  meets : (number : ℕ) → Answered s m (record { known = m.known; sources = noted request number m.sources; ahead = rest }) → Step s m request rest
  adds : (known : Known) (text : List ℕ) (words : List WordPlace) → Answered s m (added request rest known text words m) → slots_of (m.known ++ known ∷ []) < slots_of m.known → Step s m request rest
  fails : (fault : GatherFault) → EndsAt s m fault → Step s m request rest

module _ (s : Setting) (told : IsSome s.held) (m : Moment) (request : Request) (rest : List Request) (place : Place) (finds : Finds s m request rest place) where
  lexed_step : (text : List ℕ) → HasText s.held place text → IsNew m.known place → HasRoom m.known place → IsLexed (count_of m.sources) text → Step s m request rest
  lexed_step text has new room (inl (words, lexes)) =
      let (includes, lexed) = includes_there (count_of m.sources) text words lexes in
      adds (found request place includes) text (map place_of_word words)
      (inr (inr (record { request = request; rest = rest; place = place; text = text; words = map place_of_word words; includes = includes; finds = finds; new = new; room = room; text_is = has; lexed = lexed; becomes = refl })))
      (one_slot_less m.known (found request place includes) place refl new room (λ name is. subst (IsThere s.held) is finds.first.there))
  lexed_step text has new room (inr (inl (refusal, refused))) =
      fails (Refused refusal (with_file m.sources (name_at place) text (is_header_place place) [])) (record {
        place = place;
        text = text;
        next = record { request = request; rest = rest; finds = finds; new = new; room = room; text_is = has };
        refused = refused;
        sources = refl;
      })
  lexed_step text has new room (inr (inr (limit, over))) =
      fails (Over limit) (inl (record {
        place = place;
        text = text;
        next = record { request = request; rest = rest; finds = finds; new = new; room = room; text_is = has };
        over = over;
      }))

  new_step : IsNew m.known place → Step s m request rest
  new_step new =
      elim (room_or_full m.known place) [
        | inl room ↦
            let (text, has) = text_at s.held told place finds.first.there in
            lexed_step text has new room (lexed_there (count_of m.sources) text)
        | inr full ↦
            fails (Over FILES) (inr (record {
              request = request;
              rest = rest;
              name = full.0;
              finds = subst (Finds s m request rest) full.1 finds;
              new = subst (IsNew m.known) full.1 new;
              full = full.2;
              limit_is = refl;
            }))
      ]

  found_step : Step s m request rest
  found_step =
      elim (met_or_new m.known place) [
        | inl met ↦ meets met.0 (inr (inl (record { request = request; rest = rest; place = place; number = met.0; finds = finds; at = met.1; becomes = refl })))
        | inr new ↦ new_step new
      ]

-- the next request stands for a file, or there is none for it
next_step : (s : Setting) → IsSome s.held → (m : Moment) (request : Request) (rest : List Request) → m.ahead ≡ request ∷ rest → Step s m request rest ⊎ All (IsAbsent s.held) (sought_places s.dirs m.sources request)
next_step s told m request rest asked =
    elim (first_or_none s.held told (sought_places s.dirs m.sources request)) [
      | inl first ↦ inl (found_step s told m request rest first.0 (record { asked = asked; first = first.1 }))
      | inr none ↦ inr none
    ]

-- ## Which requests are ahead

-- no request is for a root
abbrev AreLines : List Request → Type 0
AreLines [] = Unit {0}
AreLines (Root name ∷ rest) = ⊥
AreLines (Line from depth include ∷ rest) = AreLines rest

-- the roots with these names were gathered; ahead are those with the other names, and then include lines
record Stage (s : Setting) (m : Moment) (done names : List Text) (lines : List Request) : Type 0 where
  whole : s.roots ≡ done ++ names
  count : root_count m.sources ≡ length done
  ahead : m.ahead ≡ map Root names ++ lines
  only : AreLines lines

lines_are : (number depth : ℕ) (includes : List Include) → AreLines (map (Line number depth) includes)
lines_are number depth [] = tt
lines_are number depth (include ∷ includes) = lines_are number depth includes

lines_if : (b : Bool) (number depth : ℕ) (includes : List Include) → AreLines (cond b (map (Line number depth) includes) [])
lines_if true number depth includes = lines_are number depth includes
lines_if false number depth includes = tt

lines_more : (lines others : List Request) → AreLines lines → AreLines others → AreLines (lines ++ others)
lines_more [] others p q = q
lines_more (Root name ∷ lines) others p q = absurd p
lines_more (Line from depth include ∷ lines) others p q = lines_more lines others p q

linked_by : (b : Bool) (g : Gathered) (from : ℕ) (include : Include) (number : ℕ) → root_count (cond b g (with_link g from include.name include.angle number)) ≡ root_count g
linked_by true g from include number = refl
linked_by false g from include number = refl

nothing_more : (lines : List Request) → length (lines ++ []) ≡ length lines
nothing_more lines = ap length (append-nil lines)

-- after a root's request
root_stage : (s : Setting) (m after : Moment) (done names : List Text) (name : Text) (lines more : List Request) (number : ℕ) (g : Gathered) → Stage s m done (name ∷ names) lines → root_count g ≡ root_count m.sources → AreLines more →
    after.sources ≡ noted (Root name) number g → after.ahead ≡ (map Root names ++ lines) ++ more → Stage s after (done ++ name ∷ []) names (lines ++ more)
root_stage s m after done names name lines more number g stage same are sources ahead = record {
  whole = stage.whole ∙ sym (append_assoc done (name ∷ []) names);
  count = ap root_count sources ∙ omega (arith, length-append g.roots (number ∷ []), length-append done (name ∷ []), same, stage.count);
  ahead = ahead ∙ append_assoc (map Root names) lines more;
  only = lines_more lines more stage.only are;
}

-- after an include line's
line_stage : (s : Setting) (m after : Moment) (done : List Text) (from depth : ℕ) (include : Include) (lines more : List Request) → Stage s m done [] (Line from depth include ∷ lines) → AreLines more →
    root_count after.sources ≡ root_count m.sources → after.ahead ≡ lines ++ more → Stage s after done [] (lines ++ more)
line_stage s m after done from depth include lines more stage are same ahead = record {
  whole = stage.whole;
  count = same ∙ stage.count;
  ahead = ahead;
  only = lines_more lines more stage.only are;
}

-- ## All requests

module _ (s : Setting) (told : IsSome s.held) where
  abbrev Ending : Type 0
  Ending = (answer : Result Gathered GatherFault) × IsEnding s answer

  -- gathering ends from a moment on, where `slots` files may still be added
  abbrev From : ℕ → Moment → Type 0
  From slots m = (answered : ℕ) (done names : List Text) (lines : List Request) → Reached s answered m → Stage s m done names lines → slots_of m.known ≤ slots → Ending

  abbrev Fewer : ℕ → Type 0
  Fewer zero = Unit {0}
  Fewer (suc slots) = (m : Moment) → From slots m

  -- and where `size` requests are ahead
  abbrev UpTo : ℕ → ℕ → Type 0
  UpTo slots size = (m : Moment) (answered : ℕ) (done names : List Text) (lines : List Request) → Reached s answered m → Stage s m done names lines → slots_of m.known ≤ slots → length names + length lines ≤ size → Ending

  fewer : (slots : ℕ) → Fewer slots → (old new : ℕ) (m : Moment) (answered : ℕ) (done names : List Text) (lines : List Request) → new < old → old ≤ slots → slots_of m.known ≡ new →
      Reached s answered m → Stage s m done names lines → Ending
  fewer zero lower old new m answered done names lines less p is reached stage = absurd (omega (arith, less, p))
  fewer (suc slots) lower old new m answered done names lines less p is reached stage = lower m answered done names lines reached stage (omega (arith, less, p, is))

  fails_by : (m : Moment) (answered : ℕ) (fault : GatherFault) → Reached s answered m → EndsAt s m fault → Ending
  fails_by m answered fault reached ends = (Err fault, record { answered = answered; last = m; reached = reached; ends = ends })

  root_next : (slots size : ℕ) → Fewer slots → UpTo slots size → (m : Moment) (answered : ℕ) (done names : List Text) (name : Text) (lines : List Request) → Reached s answered m → Stage s m done (name ∷ names) lines →
      slots_of m.known ≤ slots → length names + length lines ≤ size → Step s m (Root name) (map Root names ++ lines) → Ending
  root_next slots size lower each m answered done names name lines reached stage p q (meets number answers) =
      let after : Moment = record { known = m.known; sources = noted (Root name) number m.sources; ahead = map Root names ++ lines } in
      let next = root_stage s m after done names name lines [] number m.sources stage refl tt refl (sym (append-nil (map Root names ++ lines))) in
      each after (suc answered) (done ++ name ∷ []) names (lines ++ []) (m, reached, answers) next p (omega (arith, q, nothing_more lines))
  root_next slots size lower each m answered done names name lines reached stage p q (adds known text words answers less) =
      let more = lines_of (count_of m.sources) known in
      let after : Moment = added (Root name) (map Root names ++ lines) known text words m in
      let next = root_stage s m after done names name lines more (count_of m.sources) (with_file m.sources (name_at known.place) text (is_header_place known.place) words) stage refl
      (lines_if (nat_le known.depth MOST_NESTED_INCLUDES) (count_of m.sources) (known.depth + 1) known.includes) refl refl in
      fewer slots lower (slots_of m.known) (slots_of (m.known ++ known ∷ [])) after (suc answered) (done ++ name ∷ []) names (lines ++ more) less p refl (m, reached, answers) next
  root_next slots size lower each m answered done names name lines reached stage p q (fails fault ends) = fails_by m answered fault reached ends

  root_absent : (m : Moment) (answered : ℕ) (done names : List Text) (name : Text) (lines : List Request) → Reached s answered m → Stage s m done (name ∷ names) lines → All (IsAbsent s.held) (File name ∷ []) → Ending
  root_absent m answered done names name lines reached stage none =
      let there : slice_index_or s.roots (root_count m.sources) [] ≡ name =
      ap (λ roots. slice_index_or roots (root_count m.sources) []) stage.whole ∙ ap (λ n. slice_index_or (done ++ name ∷ names) n []) stage.count ∙ get_or-append_seam done name names [] in
      fails_by m answered (RootAbsent (root_count m.sources)) reached (record {
        rest = map Root names ++ lines;
        asked = stage.ahead ∙ ap (λ n. Root n ∷ map Root names ++ lines) (sym there);
        next = refl;
        absent = subst (λ n. IsAbsent s.held (File n)) (sym there) (All-head (IsAbsent s.held) (File name) [] none);
      })

  line_next : (slots size : ℕ) → Fewer slots → UpTo slots size → (m : Moment) (answered : ℕ) (done : List Text) (from depth : ℕ) (include : Include) (lines : List Request) → Reached s answered m →
      Stage s m done [] (Line from depth include ∷ lines) → slots_of m.known ≤ slots → length lines ≤ size → Step s m (Line from depth include) lines → Ending
  line_next slots size lower each m answered done from depth include lines reached stage p q (meets number answers) =
      let after : Moment = record { known = m.known; sources = noted (Line from depth include) number m.sources; ahead = lines } in
      let next = line_stage s m after done from depth include lines [] stage tt (linked_by (is_some (candidate_of m.sources from include.name include.angle)) m.sources from include number) (sym (append-nil lines)) in
      each after (suc answered) done [] (lines ++ []) (m, reached, answers) next p (omega (arith, q, nothing_more lines))
  line_next slots size lower each m answered done from depth include lines reached stage p q (adds known text words answers less) =
      let more = lines_of (count_of m.sources) known in
      let after : Moment = added (Line from depth include) lines known text words m in
      let g : Gathered = with_file m.sources (name_at known.place) text (is_header_place known.place) words in
      let next = line_stage s m after done from depth include lines more stage (lines_if (nat_le known.depth MOST_NESTED_INCLUDES) (count_of m.sources) (known.depth + 1) known.includes)
      (linked_by (is_some (candidate_of g from include.name include.angle)) g from include (count_of m.sources)) refl in
      fewer slots lower (slots_of m.known) (slots_of (m.known ++ known ∷ [])) after (suc answered) done [] (lines ++ more) less p refl (m, reached, answers) next
  line_next slots size lower each m answered done from depth include lines reached stage p q (fails fault ends) = fails_by m answered fault reached ends

  line_passed : (slots size : ℕ) → UpTo slots size → (m : Moment) (answered : ℕ) (done : List Text) (from depth : ℕ) (include : Include) (lines : List Request) → Reached s answered m →
      Stage s m done [] (Line from depth include ∷ lines) → slots_of m.known ≤ slots → length lines ≤ size → All (IsAbsent s.held) (sought_places s.dirs m.sources (Line from depth include)) → Ending
  line_passed slots size each m answered done from depth include lines reached stage p q none =
      let after : Moment = record { known = m.known; sources = m.sources; ahead = lines } in
      let answers : Answered s m after = inl (record { from = from; depth = depth; include = include; rest = lines; asked = stage.ahead; none = none; becomes = refl }) in
      let next = line_stage s m after done from depth include lines [] stage tt refl (sym (append-nil lines)) in
      each after (suc answered) done [] (lines ++ []) (m, reached, answers) next p (omega (arith, q, nothing_more lines))

  up_to : (slots : ℕ) → Fewer slots → (size : ℕ) → UpTo slots size
  up_to slots lower size m answered done [] [] reached stage p q =
      (Ok m.sources, record { answered = answered; last = m; reached = reached; done = stage.ahead; sources = refl })
  up_to slots lower zero m answered done [] (Line from depth include ∷ lines) reached stage p q = absurd (omega (arith, q))
  up_to slots lower (suc size) m answered done [] (Line from depth include ∷ lines) reached stage p q =
      elim (next_step s told m (Line from depth include) lines stage.ahead) [
        | inl step ↦ line_next slots size lower (up_to slots lower size) m answered done from depth include lines reached stage p (omega (arith, q)) step
        | inr none ↦ line_passed slots size (up_to slots lower size) m answered done from depth include lines reached stage p (omega (arith, q)) none
      ]
  up_to slots lower size m answered done [] (Root name ∷ lines) reached stage p q = absurd stage.only
  up_to slots lower zero m answered done (name ∷ names) lines reached stage p q = absurd (omega (arith, q))
  up_to slots lower (suc size) m answered done (name ∷ names) lines reached stage p q =
      elim (next_step s told m (Root name) (map Root names ++ lines) stage.ahead) [
        | inl step ↦ root_next slots size lower (up_to slots lower size) m answered done names name lines reached stage p (omega (arith, q)) step
        | inr none ↦ root_absent m answered done names name lines reached stage none
      ]

  each_slots : (slots : ℕ) → Fewer (suc slots)
  each_slots zero m answered done names lines reached stage p = up_to zero tt (length names + length lines) m answered done names lines reached stage p (omega arith)
  each_slots (suc slots) m answered done names lines reached stage p = up_to (suc slots) (each_slots slots) (length names + length lines) m answered done names lines reached stage p (omega arith)

-- where files are told, gathering ends in some way
pub gathering_ends : GatheringEnds
gathering_ends s told =
    each_slots s told (slots_of []) (beginning s) 0 [] s.roots [] refl (record { whole = refl; count = refl; ahead = sym (append-nil (map Root s.roots)); only = tt }) (omega arith)
