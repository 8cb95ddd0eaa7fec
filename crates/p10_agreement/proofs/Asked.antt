-- A place at which a file is looked for is a root's or a candidate of an include line of a gathered file: each request is for such a line, of
-- a file whose name, text and words stay.
use Rattle.std.proofs.Common.{◌≡◌, ℕ, zero, suc, ◌+◌, ◌-◌, ◌<◌, ◌≤◌, Bool, true, false, cond, List, [], ◌∷◌, ◌++◌, length, map, refl, sym, ap, ◌∙◌, subst, inl, inr, arith, length-append, Option}
use Rattle.std.specs.Prelude.{All, Contains, IsSome, nat_le}
use Rattle.std.proofs.lemmas.Bool.{cases_order}
use Rattle.std.proofs.lemmas.List.{get_or_append_left}
use Rattle.std.proofs.lemmas.List.Elements.{All-nil, All-head, All-tail, All-append, All-map, All-weaker, All-contains_itself, Contains-push, Contains-append_left, Contains-append_right}
use Rattle.std.proofs.Math.Seq.{get_or-append_seam}
use Rattle.p10_base.specs.declared.sources.SourceFile.{SourceFile}
use Rattle.p10_base.specs.declared.word.WordPlace.{WordPlace}
use Rattle.p10_base.specs.Gathered.{Gathered, nothing_gathered, no_file, count_of, name_of, text_of, word_places_of, with_file}
use Rattle.p10_base.specs.Words.{Text}
use Rattle.p10_world.specs.Files.{Named}
use Rattle.p10_expand.specs.declared.place.Include.{Include}
use Rattle.p10_expand.specs.declared.place.Place.{Place}
use Rattle.p10_expand.specs.declared.gathering.Known.{Known}
use Rattle.p10_expand.specs.Candidates.{candidates_of}
use Rattle.p10_expand.specs.Finding.{name_at, is_header_place}
use Rattle.p10_expand.specs.Includes.{HasIncludes}
use Rattle.p10_expand.specs.Gathering.{Setting, Request, Root, Line, Moment, sought_places, lines_of, noted, found, Answered, Reached}
use Rattle.p10_expand.proofs.Linking.{IsHeld, noted_file, noted_count}
use Rattle.p10_expand.proofs.OnceAnswered.{reached_once, earlier}
use Rattle.p10_agreement.specs.Looking.{IsSoughtAt, IsCandidate, of_root, of_line}
use Rattle.p10_agreement.specs.Laws.{OnlyCandidatesAreLookedFor}

-- ## Files that stay

-- the files of one gathering are the first ones of another, by their names, texts and words
record Begins (g h : Gathered) : Type 0 where
  few : count_of g ≤ count_of h
  names : (n : ℕ) → n < count_of g → name_of h n ≡ name_of g n
  texts : (n : ℕ) → n < count_of g → text_of h n ≡ text_of g n
  words : (n : ℕ) → n < count_of g → word_places_of h n ≡ word_places_of g n

begins_itself : (g : Gathered) → Begins g g
begins_itself g = record { few = omega arith; names = λ n below. refl; texts = λ n below. refl; words = λ n below. refl }

begins_on : (f g h : Gathered) → Begins f g → Begins g h → Begins f h
begins_on f g h before after = record {
  few = omega (arith, before.few, after.few);
  names = λ n below. after.names n (omega (arith, below, before.few)) ∙ before.names n below;
  texts = λ n below. after.texts n (omega (arith, below, before.few)) ∙ before.texts n below;
  words = λ n below. after.words n (omega (arith, below, before.few)) ∙ before.words n below;
}

begins_more : (g : Gathered) (name text : Text) (built_in : Bool) (words : List WordPlace) → Begins g (with_file g name text built_in words)
begins_more g name text built_in words = record {
  few = omega (arith, length-append g.files ((record { name = name; text = text; built_in = built_in; words = words; links = [] }) ∷ []));
  names = λ n below. ap (λ (f : SourceFile). f.name) (get_or_append_left g.files ((record { name = name; text = text; built_in = built_in; words = words; links = [] }) ∷ []) no_file n below);
  texts = λ n below. ap (λ (f : SourceFile). f.text) (get_or_append_left g.files ((record { name = name; text = text; built_in = built_in; words = words; links = [] }) ∷ []) no_file n below);
  words = λ n below. ap (λ (f : SourceFile). f.words) (get_or_append_left g.files ((record { name = name; text = text; built_in = built_in; words = words; links = [] }) ∷ []) no_file n below);
}

last_file : (g : Gathered) (name text : Text) (built_in : Bool) (words : List WordPlace) →
    (text_of (with_file g name text built_in words) (count_of g) ≡ text) × (word_places_of (with_file g name text built_in words) (count_of g) ≡ words)
last_file g name text built_in words =
    let last = get_or-append_seam g.files (record { name = name; text = text; built_in = built_in; words = words; links = [] }) [] no_file in
    (ap (λ (f : SourceFile). f.text) last, ap (λ (f : SourceFile). f.words) last)

begins_noted : (g : Gathered) (request : Request) (number : ℕ) → IsHeld g request → Begins g (noted request number g)
begins_noted g request number held = record {
  few = omega (arith, noted_count g request number);
  names = λ n below. (noted_file g request number held n).name;
  texts = λ n below. (noted_file g request number held n).text;
  words = λ n below. (noted_file g request number held n).words;
}

-- ## What is asked for

-- an include line of a gathered file
record IsLine (g : Gathered) (from : ℕ) (include : Include) : Type 0 where
  held : from < count_of g
  includes : List Include
  lexed : HasIncludes from (text_of g from) (word_places_of g from) includes
  line : Contains includes include

abbrev IsWanted : Setting → Gathered → Request → Type 0
IsWanted s g (Root name) = Contains s.roots name
IsWanted s g (Line from depth include) = IsLine g from include

held_of : (s : Setting) (g : Gathered) (request : Request) → IsWanted s g request → IsHeld g request
held_of s g (Root name) wanted = tt
held_of s g (Line from depth include) wanted = wanted.held

kept_includes : (g h : Gathered) → Begins g h → (from : ℕ) (includes : List Include) → from < count_of g → HasIncludes from (text_of g from) (word_places_of g from) includes →
    HasIncludes from (text_of h from) (word_places_of h from) includes
kept_includes g h begins from includes held lexed =
    subst (λ (t : Text). HasIncludes from t (word_places_of h from) includes) (sym (begins.texts from held))
    (subst (λ (ws : List WordPlace). HasIncludes from (text_of g from) ws includes) (sym (begins.words from held)) lexed)

kept : (s : Setting) (g h : Gathered) → Begins g h → (request : Request) → IsWanted s g request → IsWanted s h request
kept s g h begins (Root name) wanted = wanted
kept s g h begins (Line from depth include) wanted = record {
  held = omega (arith, wanted.held, begins.few);
  includes = wanted.includes;
  lexed = kept_includes g h begins from wanted.includes wanted.held wanted.lexed;
  line = wanted.line;
}

wanted_begin : (s : Setting) → All (IsWanted s nothing_gathered) (map Root s.roots)
wanted_begin s = All-map (IsWanted s nothing_gathered) Root s.roots (All-contains_itself s.roots)

-- the include lines of a file that is put now
lines_wanted : (s : Setting) (g : Gathered) (number : ℕ) (k : Known) (b : Bool) → number < count_of g → HasIncludes number (text_of g number) (word_places_of g number) k.includes → All (IsWanted s g) (cond b (map (Line number (k.depth + 1)) k.includes) [])
lines_wanted s g number k true held lexed =
    All-map (IsWanted s g) (Line number (k.depth + 1)) k.includes
    (All-weaker (Contains k.includes) (λ include. IsLine g number include) (λ include line. record { held = held; includes = k.includes; lexed = lexed; line = line }) k.includes (All-contains_itself k.includes))
lines_wanted s g number k false held lexed = All-nil (IsWanted s g)

-- ## One answer

-- after an answer all that is asked for is wanted, and the files before it stay
record Goes (s : Setting) (before after : Moment) : Type 0 where
  wanted : All (IsWanted s after.sources) after.ahead
  begins : Begins before.sources after.sources

split : (s : Setting) (m : Moment) (request : Request) (rest : List Request) → m.ahead ≡ request ∷ rest → All (IsWanted s m.sources) m.ahead → IsWanted s m.sources request × All (IsWanted s m.sources) rest
split s m request rest asked wanted =
    let all = subst (λ (rs : List Request). All (IsWanted s m.sources) rs) asked wanted in
    (All-head (IsWanted s m.sources) request rest all, All-tail (IsWanted s m.sources) request rest all)

put_goes : (s : Setting) (g : Gathered) (request : Request) (rest : List Request) (k : Known) (text : Text) (words : List WordPlace) → HasIncludes (count_of g) text words k.includes → IsWanted s g request → All (IsWanted s g) rest
    → All (IsWanted s (noted request (count_of g) (with_file g (name_at k.place) text (is_header_place k.place) words))) (rest ++ lines_of (count_of g) k) × Begins g (noted request (count_of g) (with_file g (name_at k.place) text (is_header_place k.place) words))
put_goes s g request rest k text words lexed wanted others =
    let more : Gathered = with_file g (name_at k.place) text (is_header_place k.place) words in
    let last : Gathered = noted request (count_of g) more in
    let held : IsHeld more request = held_of s more request (kept s g more (begins_more g (name_at k.place) text (is_header_place k.place) words) request wanted) in
    let begins : Begins g last = begins_on g more last (begins_more g (name_at k.place) text (is_header_place k.place) words) (begins_noted more request (count_of g) held) in
    let there = noted_file more request (count_of g) held (count_of g) in
    let here = last_file g (name_at k.place) text (is_header_place k.place) words in
    let text_is : text_of last (count_of g) ≡ text = there.text ∙ here.0 in
    let words_are : word_places_of last (count_of g) ≡ words = there.words ∙ here.1 in
    let within : count_of g < count_of last = omega (arith, noted_count more request (count_of g), length-append g.files ((record { name = name_at k.place; text = text; built_in = is_header_place k.place; words = words; links = [] }) ∷ [])) in (
      All-append (IsWanted s last) rest (lines_of (count_of g) k) (All-weaker (IsWanted s g) (IsWanted s last) (kept s g last begins) rest others)
          (lines_wanted s last (count_of g) k (nat_le k.depth 64) within (subst (λ (t : Text). HasIncludes (count_of g) t (word_places_of last (count_of g)) k.includes) (sym text_is)
          (subst (λ (ws : List WordPlace). HasIncludes (count_of g) text ws k.includes) (sym words_are) lexed))),
      begins,
    )

goes : (s : Setting) (before after : Moment) → All (IsWanted s before.sources) before.ahead → Answered s before after → Goes s before after
goes s before after wanted (inl passes) =
    let parts = split s before (Line passes.from passes.depth passes.include) passes.rest passes.asked wanted in
    subst (λ (m : Moment). Goes s before m) (sym passes.becomes) (record { wanted = parts.1; begins = begins_itself before.sources })
goes s before after wanted (inr (inl meets)) =
    let parts = split s before meets.request meets.rest meets.finds.asked wanted in
    let begins = begins_noted before.sources meets.request meets.number (held_of s before.sources meets.request parts.0) in
    subst (λ (m : Moment). Goes s before m) (sym meets.becomes) (record {
      wanted = All-weaker (IsWanted s before.sources) (IsWanted s (noted meets.request meets.number before.sources)) (kept s before.sources (noted meets.request meets.number before.sources) begins) meets.rest parts.1;
      begins = begins;
    })
goes s before after wanted (inr (inr adds)) =
    let parts = split s before adds.request adds.rest adds.finds.asked wanted in
    let puts = put_goes s before.sources adds.request adds.rest (found adds.request adds.place adds.includes) adds.text adds.words adds.lexed parts.0 parts.1 in
    subst (λ (m : Moment). Goes s before m) (sym adds.becomes) (record { wanted = puts.0; begins = puts.1 })

-- ## All answers

wanted_at : (s : Setting) (answered : ℕ) (m : Moment) → Reached s answered m → All (IsWanted s m.sources) m.ahead
wanted_at s zero m is = subst (λ (x : Moment). All (IsWanted s x.sources) x.ahead) (sym is) (wanted_begin s)
wanted_at s (suc answered) m (before, reached, answers) = (goes s before m (wanted_at s answered before reached) answers).wanted

begins_same : (m last : Moment) → m ≡ last → Begins m.sources last.sources
begins_same m last same = subst (λ (x : Moment). Begins m.sources x.sources) same (begins_itself m.sources)

-- the files of an earlier moment are the first ones of a later one
on_the_way : (s : Setting) → IsSome s.held → (n : ℕ) (m : Moment) → Reached s n m → (answered : ℕ) (last : Moment) → n ≤ answered → Reached s answered last → Begins m.sources last.sources
on_the_way s told n m reached zero last few is =
    let none : n ≡ zero = omega (arith, few) in
    begins_same m last (reached_once s zero m last told (subst (λ (k : ℕ). Reached s k m) none reached) is)
on_the_way s told n m reached (suc answered) last few (before, earlier_reached, answers) =
    elim (cases_order n (suc answered)) [
      | inl same ↦ begins_same m last (reached_once s (suc answered) m last told (subst (λ (k : ℕ). Reached s k m) same reached) (before, earlier_reached, answers))
      | inr apart ↦ elim apart [
        | inl under ↦ begins_on m.sources before.sources last.sources (on_the_way s told n m reached answered before (omega (arith, under)) earlier_reached) (goes s before last (wanted_at s answered before earlier_reached) answers).begins
        | inr over ↦ absurd (omega (arith, few, over))
      ]
    ]

none_asked : (m : Moment) (request : Request) (rest : List Request) → m.ahead ≡ [] → m.ahead ≡ request ∷ rest → ⊥
none_asked m request rest none asked = omega (arith, ap length (sym none ∙ asked))

done_ends : (s : Setting) (m after : Moment) → m.ahead ≡ [] → Answered s m after → ⊥
done_ends s m after done (inl passes) = none_asked m (Line passes.from passes.depth passes.include) passes.rest done passes.asked
done_ends s m after done (inr (inl meets)) = none_asked m meets.request meets.rest done meets.finds.asked
done_ends s m after done (inr (inr adds)) = none_asked m adds.request adds.rest done adds.finds.asked

-- no moment comes after the one at which all is answered
no_later : (s : Setting) → IsSome s.held → (answered : ℕ) (last : Moment) → Reached s answered last → last.ahead ≡ [] → (n : ℕ) (m : Moment) → Reached s n m → answered < n → ⊥
no_later s told answered last is done n m reached over =
    let count : n ≡ suc ((n - suc answered) + answered) = omega (arith, over) in
    let (before, after, reached_before, answers) = earlier s answered (n - suc answered) m (subst (λ (k : ℕ). Reached s k m) count reached) in
    done_ends s last after done (subst (λ (x : Moment). Answered s x after) (reached_once s answered before last told reached_before is) answers)

at_most : (s : Setting) → IsSome s.held → (answered : ℕ) (last : Moment) → Reached s answered last → last.ahead ≡ [] → (n : ℕ) (m : Moment) → Reached s n m → n ≤ answered
at_most s told answered last is done n m reached =
    elim (cases_order n answered) [
      | inl same ↦ omega (arith, same)
      | inr apart ↦ elim apart [ inl under ↦ omega (arith, under) | inr over ↦ absurd (no_later s told answered last is done n m reached over) ]
    ]

-- ## The places

sought_among : (held : Option (List Named)) (places : List Place) (place : Place) → IsSoughtAt held places place → Contains places place
sought_among held [] place sought = absurd sought
sought_among held (next ∷ places) place (inl same) = subst (λ (p : Place). Contains (next ∷ places) p) same (Contains-append_left (next ∷ []) places next (Contains-push [] next))
sought_among held (next ∷ places) place (inr (absent, sought)) = Contains-append_right (next ∷ []) places place (sought_among held places place sought)

is_candidate : (s : Setting) (g h : Gathered) (request : Request) (place : Place) → Begins g h → IsWanted s g request → IsSoughtAt s.held (sought_places s.dirs g request) place → IsCandidate s h place
is_candidate s g h (Root name) place begins wanted (inl same) = of_root name wanted (sym same)
is_candidate s g h (Root name) place begins wanted (inr (absent, sought)) = absurd sought
is_candidate s g h (Line from depth include) place begins wanted sought =
    of_line from wanted.includes include (omega (arith, wanted.held, begins.few)) (kept_includes g h begins from wanted.includes wanted.held wanted.lexed) wanted.line
    (subst (λ (n : Text). Contains (candidates_of s.dirs n include) place) (sym (begins.names from wanted.held)) (sought_among s.held (candidates_of s.dirs (name_of g from) include) place sought))

pub only_candidates : OnlyCandidatesAreLookedFor
only_candidates s told g is place looked =
    let begins : Begins looked.moment.sources g = subst (λ (x : Gathered). Begins looked.moment.sources x) (sym is.sources)
    (on_the_way s told looked.answered looked.moment looked.reached is.answered is.last (at_most s told is.answered is.last is.reached is.done looked.answered looked.moment looked.reached) is.reached) in
    let parts = split s looked.moment looked.request looked.rest looked.asked (wanted_at s looked.answered looked.moment looked.reached) in
    is_candidate s looked.moment.sources g looked.request place begins parts.0 looked.sought
