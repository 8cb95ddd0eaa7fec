-- Files that hold the same at each name at which they are looked for are gathered alike: each request is answered in the same way.
use Rattle.std.proofs.Common.{◌≡◌, ℕ, zero, suc, List, [], ◌∷◌, ◌++◌, refl, sym, ◌∙◌, subst, inl, inr, Some}
use Rattle.std.specs.Prelude.{All, IsSome}
use Rattle.std.proofs.lemmas.List.Elements.{All-nil, All-cons, All-head, All-tail}
use Rattle.p10_base.specs.Words.{Text}
use Rattle.p10_world.specs.Files.{Named, file_of}
use Rattle.p10_expand.specs.declared.place.Place.{Place}
use Rattle.p10_expand.specs.declared.place.Place.TheVariants.{File, Header}
use Rattle.p10_expand.specs.Finding.{HasText, IsThere, IsAbsent, IsFirst}
use Rattle.p10_expand.specs.Gathering.{Request, Line, Moment, sought_places, Finds, Answered, Reached}
use Rattle.p10_expand.specs.Setting.{setting}
use Rattle.p10_agreement.specs.Looking.{IsSoughtAt, IsLookedFor, AreAsBefore}
use Rattle.p10_agreement.specs.Laws.{GatheringGoesByWhatItLooksFor, OneOtherFileMayDiffer}

-- ## A place

-- the later files hold the same at a place
abbrev IsAlike : List Named → List Named → Place → Type 0
IsAlike files later (File name) = file_of name later ≡ file_of name files
IsAlike files later (Header name) = Unit {0}

absent_alike : (files later : List Named) (place : Place) → IsAlike files later place → IsAbsent (Some files) place → IsAbsent (Some later) place
absent_alike files later (File name) same absent = same ∙ absent
absent_alike files later (Header name) same absent = absent

there_alike : (files later : List Named) (place : Place) → IsAlike files later place → IsThere (Some files) place → IsThere (Some later) place
there_alike files later (File name) same there = subst (λ o. IsSome o) (sym same) there
there_alike files later (Header name) same there = there

text_alike : (files later : List Named) (place : Place) (text : List ℕ) → IsAlike files later place → HasText (Some files) place text → HasText (Some later) place text
text_alike files later (File name) text same is = same ∙ is
text_alike files later (Header name) text same is = is

-- ## The places of a request

abbrev AreAlike : List Named → List Named → List Place → Type 0
AreAlike files later places = (place : Place) → IsSoughtAt (Some files) places place → IsAlike files later place

none_alike : (files later : List Named) (places : List Place) → AreAlike files later places → All (IsAbsent (Some files)) places → All (IsAbsent (Some later)) places
none_alike files later [] same none = All-nil (IsAbsent (Some later))
none_alike files later (place ∷ places) same none =
    let absent = All-head (IsAbsent (Some files)) place places none in
    All-cons (IsAbsent (Some later)) place places (absent_alike files later place (same place (inl refl)) absent)
    (none_alike files later places (λ other sought. same other (inr (absent, sought))) (All-tail (IsAbsent (Some files)) place places none))

front_alike : (files later : List Named) (front back : List Place) (place : Place) → AreAlike files later (front ++ place ∷ back) → All (IsAbsent (Some files)) front → All (IsAbsent (Some later)) front × IsAlike files later place
front_alike files later [] back place same none = (All-nil (IsAbsent (Some later)), same place (inl refl))
front_alike files later (next ∷ front) back place same none =
    let absent = All-head (IsAbsent (Some files)) next front none in
    let rest = front_alike files later front back place (λ other sought. same other (inr (absent, sought))) (All-tail (IsAbsent (Some files)) next front none) in
    (All-cons (IsAbsent (Some later)) next front (absent_alike files later next (same next (inl refl)) absent) rest.0, rest.1)

first_alike : (files later : List Named) (places : List Place) (place : Place) → AreAlike files later places → IsFirst (Some files) places place → IsFirst (Some later) places place × IsAlike files later place
first_alike files later places place same first =
    let alike = front_alike files later first.front first.back place (subst (λ ps. AreAlike files later ps) first.parts same) first.none in
    (record { front = first.front; back = first.back; parts = first.parts; none = alike.0; there = there_alike files later place alike.1 first.there }, alike.1)

-- ## Requests

-- what is looked for at a moment is alike
abbrev NextIsAlike : List Text → List Text → List Named → List Named → Moment → Type 0
NextIsAlike sources directories files later m =
    (request : Request) (rest : List Request) → m.ahead ≡ request ∷ rest → AreAlike files later (sought_places directories m.sources request)

finds_alike : (sources directories : List Text) (files later : List Named) (m : Moment) (request : Request) (rest : List Request) (place : Place) → NextIsAlike sources directories files later m → Finds (setting (Some files) sources directories) m request rest place
    → Finds (setting (Some later) sources directories) m request rest place × IsAlike files later place
finds_alike sources directories files later m request rest place same finds =
    let first = first_alike files later (sought_places directories m.sources request) place (same request rest finds.asked) finds.first in
    (record { asked = finds.asked; first = first.0 }, first.1)

answered_alike : (sources directories : List Text) (files later : List Named) (before after : Moment) → NextIsAlike sources directories files later before
    → Answered (setting (Some files) sources directories) before after → Answered (setting (Some later) sources directories) before after
answered_alike sources directories files later before after same (inl passes) = inl (record {
  from = passes.from;
  depth = passes.depth;
  include = passes.include;
  rest = passes.rest;
  asked = passes.asked;
  none = none_alike files later (sought_places directories before.sources (Line passes.from passes.depth passes.include)) (same (Line passes.from passes.depth passes.include) passes.rest passes.asked) passes.none;
  becomes = passes.becomes;
})
answered_alike sources directories files later before after same (inr (inl meets)) =
    let finds = finds_alike sources directories files later before meets.request meets.rest meets.place same meets.finds in
    inr (inl (record { request = meets.request; rest = meets.rest; place = meets.place; number = meets.number; finds = finds.0; at = meets.at; becomes = meets.becomes }))
answered_alike sources directories files later before after same (inr (inr adds)) =
    let finds = finds_alike sources directories files later before adds.request adds.rest adds.place same adds.finds in
    inr (inr (record {
      request = adds.request;
      rest = adds.rest;
      place = adds.place;
      text = adds.text;
      words = adds.words;
      includes = adds.includes;
      finds = finds.0;
      new = adds.new;
      room = adds.room;
      text_is = text_alike files later adds.place adds.text finds.1 adds.text_is;
      lexed = adds.lexed;
      becomes = adds.becomes;
    }))

-- ## Gathering

alike_at : (sources directories : List Text) (files later : List Named) → AreAsBefore sources directories files later → (place : Place) → IsLookedFor (setting (Some files) sources directories) place → IsAlike files later place
alike_at sources directories files later same (File name) looked = same name looked
alike_at sources directories files later same (Header name) looked = tt

reached_alike : (sources directories : List Text) (files later : List Named) → AreAsBefore sources directories files later → (answered : ℕ) (m : Moment)
    → Reached (setting (Some files) sources directories) answered m → Reached (setting (Some later) sources directories) answered m
reached_alike sources directories files later same zero m is = is
reached_alike sources directories files later same (suc answered) m (before, reached, answers) = (
  before,
  reached_alike sources directories files later same answered before reached,
  answered_alike sources directories files later before m
      (λ request rest asked place sought. alike_at sources directories files later same place
      (record { answered = answered; moment = before; reached = reached; request = request; rest = rest; asked = asked; sought = sought }))
      answers,
)

pub gathered_alike : GatheringGoesByWhatItLooksFor
gathered_alike sources directories files later g same is = record {
  answered = is.answered;
  last = is.last;
  reached = reached_alike sources directories files later same is.answered is.last is.reached;
  done = is.done;
  sources = is.sources;
}

pub one_other_may_differ : OneOtherFileMayDiffer
one_other_may_differ sources directories files later other same never name looked = same name (λ is. never (subst (λ (n : Text). IsLookedFor (setting (Some files) sources directories) (File n)) is looked))
