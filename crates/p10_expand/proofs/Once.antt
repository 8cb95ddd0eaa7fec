-- Where files are told, gathering ends in one way only.
use Rattle.std.proofs.Common.{◌≡◌, ℕ, suc, ◌+◌, ◌-◌, ◌<◌, List, [], ◌∷◌, length, sym, ◌∙◌, ap, subst, inl, inr, arith}
use Rattle.std.specs.Prelude.{IsSome, Result, Ok, Err}
use Rattle.std.proofs.lemmas.Bool.{cases_order}
use Rattle.std.proofs.lemmas.List.Elements.{All-cons, All-nil}
use Rattle.p10_base.specs.declared.report.Refusal.{Refusal}
use Rattle.p10_base.specs.declared.report.Limit.{Limit}
use Rattle.p10_base.specs.Gathered.{Gathered, count_of, with_file}
use Rattle.p10_lex.specs.declared.fault.LexFault.TheVariants as lexing
use Rattle.p10_lex.specs.Lexes.{Answers}
use Rattle.p10_expand.specs.declared.place.Place.{Place}
use Rattle.p10_expand.specs.declared.place.Place.TheVariants.{File}
use Rattle.p10_expand.specs.declared.fault.GatherFault.{GatherFault}
use Rattle.p10_expand.specs.declared.fault.GatherFault.TheVariants.{RootAbsent, Read, Refused, Over, Memory}
use Rattle.p10_expand.specs.Finding.{name_at, is_header_place, HasText, IsAbsent}
use Rattle.p10_expand.specs.Includes.{HasIncludes}
use Rattle.p10_expand.specs.Gathering.{Setting, Request, Root, Line, Moment, HasRoom, present, Finds, Passes, Answered, Reached, LacksRoot, IsNext, RefusesNext, IsOneTooMany, EndsAt, IsEnding, EndsOnce}
use Rattle.p10_expand.proofs.OncePlaces.{text_once}
use Rattle.p10_expand.proofs.OnceLexed.{refusal_once, limit_once, refused_or_over, included_or_refused, included_or_over}
use Rattle.p10_expand.proofs.OnceAnswered.{same_request, found_once, none_found, new_or_met, reached_once, earlier}

-- an ending, at the moment at which gathering ends
abbrev EndsWith : Setting → Moment → Result Gathered GatherFault → Type 0
EndsWith s m (Ok g) = (m.ahead ≡ []) × (g ≡ m.sources)
EndsWith s m (Err fault) = EndsAt s m fault

-- ## What can't be both

none_asked : (m : Moment) (request : Request) (rest : List Request) → m.ahead ≡ [] → m.ahead ≡ request ∷ rest → ⊥
none_asked m request rest none asked = omega (arith, ap length (sym none ∙ asked))

root_or_line : (name : List ℕ) (from depth : ℕ) (include : _) → Root name ≡ Line from depth include → ⊥
root_or_line name from depth include same = cc

-- a root is absent, or something is found
lacks_or_finds : (s : Setting) (m : Moment) (number : ℕ) (request : Request) (rest : List Request) (place : Place) → IsSome s.held → LacksRoot s m number → Finds s m request rest place → ⊥
lacks_or_finds s m number request rest place told lacks finds =
    none_found s m _ request lacks.rest rest place told lacks.asked (All-cons (IsAbsent s.held) _ [] lacks.absent (All-nil (IsAbsent s.held))) finds

-- there is no room for one file, and room for the next
full_or_room : (s : Setting) (m : Moment) (limit : Limit) (request : Request) (rest : List Request) (place : Place) → IsSome s.held → IsOneTooMany s m limit → Finds s m request rest place → HasRoom m.known place → ⊥
full_or_room s m limit request rest place told many finds room =
    let same : place ≡ File many.name = found_once s m request many.request rest many.rest place (File many.name) told finds many.finds in
    let few : present m.known < 256 = subst (λ p. HasRoom m.known p) same room in
    omega (arith, few, many.full)

-- ## Nothing is answered where gathering ends

no_pass : (s : Setting) (m after : Moment) (request : Request) (rest : List Request) (place : Place) → IsSome s.held → Finds s m request rest place → Passes s m after → ⊥
no_pass s m after request rest place told finds passes = none_found s m _ request passes.rest rest place told passes.asked passes.none finds

done_ends : (s : Setting) (m after : Moment) → m.ahead ≡ [] → Answered s m after → ⊥
done_ends s m after done (inl passes) = none_asked m _ passes.rest done passes.asked
done_ends s m after done (inr (inl meets)) = none_asked m meets.request meets.rest done meets.finds.asked
done_ends s m after done (inr (inr adds)) = none_asked m adds.request adds.rest done adds.finds.asked

lacks_ends : (s : Setting) (m after : Moment) (number : ℕ) → IsSome s.held → LacksRoot s m number → Answered s m after → ⊥
lacks_ends s m after number told lacks (inl passes) = root_or_line _ _ _ _ (same_request m _ _ lacks.rest passes.rest lacks.asked passes.asked)
lacks_ends s m after number told lacks (inr (inl meets)) = lacks_or_finds s m number meets.request meets.rest meets.place told lacks meets.finds
lacks_ends s m after number told lacks (inr (inr adds)) = lacks_or_finds s m number adds.request adds.rest adds.place told lacks adds.finds

-- the next file isn't gathered where its text has no include lines
next_ends : (s : Setting) (m after : Moment) (place : Place) (text : List ℕ) → IsSome s.held → IsNext s m place text →
    ((words : _) (includes : _) → HasIncludes (count_of m.sources) text words includes → ⊥) → Answered s m after → ⊥
next_ends s m after place text told next none (inl passes) = no_pass s m after next.request next.rest place told next.finds passes
next_ends s m after place text told next none (inr (inl meets)) =
    new_or_met m.known place meets.place meets.number (found_once s m next.request meets.request next.rest meets.rest place meets.place told next.finds meets.finds) next.new meets.at
next_ends s m after place text told next none (inr (inr adds)) =
    let place_is = found_once s m adds.request next.request adds.rest next.rest adds.place place told adds.finds next.finds in
    let text_is = text_once s.held place adds.text text told (subst (λ p. HasText s.held p adds.text) place_is adds.text_is) next.text_is in
    none adds.words adds.includes (subst (λ t. HasIncludes (count_of m.sources) t adds.words adds.includes) text_is adds.lexed)

full_ends : (s : Setting) (m after : Moment) (limit : Limit) → IsSome s.held → IsOneTooMany s m limit → Answered s m after → ⊥
full_ends s m after limit told many (inl passes) = no_pass s m after many.request many.rest (File many.name) told many.finds passes
full_ends s m after limit told many (inr (inl meets)) =
    new_or_met m.known (File many.name) meets.place meets.number (found_once s m many.request meets.request many.rest meets.rest (File many.name) meets.place told many.finds meets.finds) many.new meets.at
full_ends s m after limit told many (inr (inr adds)) = full_or_room s m limit adds.request adds.rest adds.place told many adds.finds adds.room

ends : (s : Setting) (m after : Moment) (ending : Result Gathered GatherFault) → IsSome s.held → EndsWith s m ending → Answered s m after → ⊥
ends s m after (Ok g) told (done, is) answers = done_ends s m after done answers
ends s m after (Err (RootAbsent number)) told lacks answers = lacks_ends s m after number told lacks answers
ends s m after (Err (Refused refusal g)) told refuses answers =
    next_ends s m after refuses.place refuses.text told refuses.next (λ words includes has. included_or_refused (count_of m.sources) refuses.text words includes refusal has refuses.refused) answers
ends s m after (Err (Over limit)) told (inl over) answers =
    next_ends s m after over.place over.text told over.next (λ words includes has. included_or_over (count_of m.sources) over.text words includes limit has over.over) answers
ends s m after (Err (Over limit)) told (inr many) answers = full_ends s m after limit told many answers
ends s m after (Err Read) told never answers = never
ends s m after (Err Memory) told never answers = never

-- ## One ending at a moment

next_place : (s : Setting) (m : Moment) (place other : Place) (text text' : List ℕ) → IsSome s.held → IsNext s m place text → IsNext s m other text' → place ≡ other
next_place s m place other text text' told is are = found_once s m is.request are.request is.rest are.rest place other told is.finds are.finds

next_text : (s : Setting) (m : Moment) (place other : Place) (text text' : List ℕ) → IsSome s.held → IsNext s m place text → IsNext s m other text' → text ≡ text'
next_text s m place other text text' told is are =
    text_once s.held other text text' told (subst (λ p. HasText s.held p text) (next_place s m place other text text' told is are) is.text_is) are.text_is

-- what lexing the next file gives, as what lexing the same next file gives
next_answers : (s : Setting) (m : Moment) (place other : Place) (text text' : List ℕ) (answer : _) → IsSome s.held → IsNext s m place text → IsNext s m other text' → Answers (count_of m.sources) text answer → Answers (count_of m.sources) text' answer
next_answers s m place other text text' answer told is are lexed = subst (λ t. Answers (count_of m.sources) t answer) (next_text s m place other text text' told is are) lexed

refuses_once : (s : Setting) (m : Moment) (refusal other : Refusal) (g h : Gathered) → IsSome s.held → RefusesNext s m refusal g → RefusesNext s m other h → (refusal ≡ other) × (g ≡ h)
refuses_once s m refusal other g h told is are =
    let place = next_place s m is.place are.place is.text are.text told is.next are.next in
    let text = next_text s m is.place are.place is.text are.text told is.next are.next in (
      refusal_once (count_of m.sources) are.text refusal other (next_answers s m is.place are.place is.text are.text (Err (lexing.Refused refusal)) told is.next are.next is.refused) are.refused,
      is.sources ∙ ((λ i. with_file m.sources (name_at (place i)) (text i) (is_header_place (place i)) []) ∙ sym are.sources),
    )

refuses_or_over : (s : Setting) (m : Moment) (refusal : Refusal) (g : Gathered) (limit : Limit) → IsSome s.held → RefusesNext s m refusal g → EndsAt s m (Over limit) → ⊥
refuses_or_over s m refusal g limit told is (inl over) =
    refused_or_over (count_of m.sources) over.text refusal limit (next_answers s m is.place over.place is.text over.text (Err (lexing.Refused refusal)) told is.next over.next is.refused) over.over
refuses_or_over s m refusal g limit told is (inr many) = full_or_room s m limit is.next.request is.next.rest is.place told many is.next.finds is.next.room

over_once : (s : Setting) (m : Moment) (limit other : Limit) → IsSome s.held → EndsAt s m (Over limit) → EndsAt s m (Over other) → limit ≡ other
over_once s m limit other told (inl is) (inl are) =
    limit_once (count_of m.sources) are.text limit other (next_answers s m is.place are.place is.text are.text (Err (lexing.Over limit)) told is.next are.next is.over) are.over
over_once s m limit other told (inl is) (inr many) = absurd (full_or_room s m other is.next.request is.next.rest is.place told many is.next.finds is.next.room)
over_once s m limit other told (inr many) (inl are) = absurd (full_or_room s m limit are.next.request are.next.rest are.place told many are.next.finds are.next.room)
over_once s m limit other told (inr is) (inr are) = is.limit_is ∙ sym are.limit_is

lacks_or_over : (s : Setting) (m : Moment) (number : ℕ) (limit : Limit) → IsSome s.held → LacksRoot s m number → EndsAt s m (Over limit) → ⊥
lacks_or_over s m number limit told lacks (inl over) = lacks_or_finds s m number over.next.request over.next.rest over.place told lacks over.next.finds
lacks_or_over s m number limit told lacks (inr many) = lacks_or_finds s m number many.request many.rest (File many.name) told lacks many.finds

done_or_fails : (s : Setting) (m : Moment) (fault : GatherFault) → m.ahead ≡ [] → EndsAt s m fault → ⊥
done_or_fails s m (RootAbsent number) done lacks = none_asked m _ lacks.rest done lacks.asked
done_or_fails s m (Refused refusal g) done refuses = none_asked m refuses.next.request refuses.next.rest done refuses.next.finds.asked
done_or_fails s m (Over limit) done (inl over) = none_asked m over.next.request over.next.rest done over.next.finds.asked
done_or_fails s m (Over limit) done (inr many) = none_asked m many.request many.rest done many.finds.asked
done_or_fails s m Read done never = never
done_or_fails s m Memory done never = never

fails_once : (s : Setting) (m : Moment) (fault other : GatherFault) → IsSome s.held → EndsAt s m fault → EndsAt s m other → fault ≡ other
fails_once s m (RootAbsent number) (RootAbsent number') told is are = ap RootAbsent (sym is.next ∙ are.next)
fails_once s m (RootAbsent number) (Refused refusal g) told is are = absurd (lacks_or_finds s m number are.next.request are.next.rest are.place told is are.next.finds)
fails_once s m (RootAbsent number) (Over limit) told is are = absurd (lacks_or_over s m number limit told is are)
fails_once s m (RootAbsent number) Read told is never = absurd never
fails_once s m (RootAbsent number) Memory told is never = absurd never
fails_once s m (Refused refusal g) (RootAbsent number) told is are = absurd (lacks_or_finds s m number is.next.request is.next.rest is.place told are is.next.finds)
fails_once s m (Refused refusal g) (Refused refusal' h) told is are =
    let same = refuses_once s m refusal refusal' g h told is are in
    λ i. Refused (same.0 i) (same.1 i)
fails_once s m (Refused refusal g) (Over limit) told is are = absurd (refuses_or_over s m refusal g limit told is are)
fails_once s m (Refused refusal g) Read told is never = absurd never
fails_once s m (Refused refusal g) Memory told is never = absurd never
fails_once s m (Over limit) (RootAbsent number) told is are = absurd (lacks_or_over s m number limit told are is)
fails_once s m (Over limit) (Refused refusal g) told is are = absurd (refuses_or_over s m refusal g limit told are is)
fails_once s m (Over limit) (Over other) told is are = ap Over (over_once s m limit other told is are)
fails_once s m (Over limit) Read told is never = absurd never
fails_once s m (Over limit) Memory told is never = absurd never
fails_once s m Read other told never are = absurd never
fails_once s m Memory other told never are = absurd never

ends_alike : (s : Setting) (m : Moment) (these those : Result Gathered GatherFault) → IsSome s.held → EndsWith s m these → EndsWith s m those → these ≡ those
ends_alike s m (Ok g) (Ok h) told (done, is) (done', are) = ap Ok (is ∙ sym are)
ends_alike s m (Ok g) (Err fault) told (done, is) are = absurd (done_or_fails s m fault done are)
ends_alike s m (Err fault) (Ok h) told is (done, are) = absurd (done_or_fails s m fault done is)
ends_alike s m (Err fault) (Err other) told is are = ap Err (fails_once s m fault other told is are)

-- ## One ending

record Ending (s : Setting) (ending : Result Gathered GatherFault) : Type 0 where
  answered : ℕ
  last : Moment
  reached : Reached s answered last
  ends_with : EndsWith s last ending

ending_of : (s : Setting) (ending : Result Gathered GatherFault) → IsEnding s ending → Ending s ending
ending_of s (Ok g) is = record { answered = is.answered; last = is.last; reached = is.reached; ends_with = (is.done, is.sources) }
ending_of s (Err fault) is = record { answered = is.answered; last = is.last; reached = is.reached; ends_with = is.ends }

-- no ending comes after fewer answers than another
no_sooner : (s : Setting) (these those : Result Gathered GatherFault) → IsSome s.held → (is : Ending s these) (are : Ending s those) → is.answered < are.answered → ⊥
no_sooner s these those told is are sooner =
    let count : are.answered ≡ suc ((are.answered - suc is.answered) + is.answered) = omega (arith, sooner) in
    let (before, after, reached, answers) = earlier s is.answered (are.answered - suc is.answered) are.last (subst (λ n. Reached s n are.last) count are.reached) in
    ends s is.last after these told is.ends_with (subst (λ m. Answered s m after) (reached_once s is.answered before is.last told reached is.reached) answers)

same_ending : (s : Setting) (these those : Result Gathered GatherFault) → IsSome s.held → (is : Ending s these) (are : Ending s those) → these ≡ those
same_ending s these those told is are =
    elim (cases_order is.answered are.answered) [
      | inl same ↦
          let last : is.last ≡ are.last = reached_once s are.answered is.last are.last told (subst (λ n. Reached s n is.last) same is.reached) are.reached in
          ends_alike s are.last these those told (subst (λ m. EndsWith s m these) last is.ends_with) are.ends_with
      | inr apart ↦ absurd (elim apart [ inl sooner ↦ no_sooner s these those told is are sooner | inr later ↦ no_sooner s those these told are is later ])
    ]

-- where files are told, gathering ends in one way only
pub ends_once : EndsOnce
ends_once s told these those is are = same_ending s these those told (ending_of s these is) (ending_of s those are)
