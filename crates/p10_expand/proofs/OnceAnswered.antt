-- Where files are told, each request is answered in one way, so there is one moment after each number of answers.
use Rattle.std.proofs.Common.{◌≡◌, ℕ, zero, suc, ◌+◌, ◌<◌, List, [], ◌∷◌, ◌++◌, length, sym, ◌∙◌, ap, subst, inl, inr, arith, length-append, ◌⊎◌}
use Rattle.std.specs.Prelude.{All, IsSome}
use Rattle.std.proofs.lemmas.Bool.{cases_order}
use Rattle.std.proofs.lemmas.List.{get_or_append_left}
use Rattle.std.proofs.Math.Seq.{get_or-append_seam}
use Rattle.p10_base.specs.Gathered.{count_of}
use Rattle.p10_expand.specs.declared.place.Place.{Place}
use Rattle.p10_expand.specs.declared.gathering.Known.{Known}
use Rattle.p10_expand.specs.Finding.{HasText, IsAbsent}
use Rattle.p10_expand.specs.Includes.{HasIncludes}
use Rattle.p10_expand.specs.Gathering.{Setting, Request, Line, Moment, sought_places, no_known, known_at, IsAt, IsNew, noted, Finds, Passes, Meets, found, added, Adds, Answered, Reached}
use Rattle.p10_expand.proofs.OncePlaces.{same_head, same_tail, text_once, first_once, none_first}
use Rattle.p10_expand.proofs.OnceLexed.{includes_once}
use Rattle.p10_expand.proofs.WordPlaces.{places_once}

-- ## What is asked, and what is found

pub same_request : (m : Moment) (request other : Request) (rest others : List Request) → m.ahead ≡ request ∷ rest → m.ahead ≡ other ∷ others → request ≡ other
same_request m request other rest others is are = same_head request other rest others (sym is ∙ are)

same_rest : (m : Moment) (request other : Request) (rest others : List Request) → m.ahead ≡ request ∷ rest → m.ahead ≡ other ∷ others → rest ≡ others
same_rest m request other rest others is are = same_tail request other rest others (sym is ∙ are)

same_places : (s : Setting) (m : Moment) (request other : Request) (rest others : List Request) → m.ahead ≡ request ∷ rest → m.ahead ≡ other ∷ others →
    sought_places s.dirs m.sources request ≡ sought_places s.dirs m.sources other
same_places s m request other rest others is are = ap (λ r. sought_places s.dirs m.sources r) (same_request m request other rest others is are)

-- one place is found
pub found_once : (s : Setting) (m : Moment) (request other : Request) (rest others : List Request) (place place' : Place) → IsSome s.held → Finds s m request rest place → Finds s m other others place' → place ≡ place'
found_once s m request other rest others place place' told is are =
    first_once s.held (sought_places s.dirs m.sources request) (sought_places s.dirs m.sources other) place place' told (same_places s m request other rest others is.asked are.asked) is.first are.first

-- where there is a file at none of the places, none is found
pub none_found : (s : Setting) (m : Moment) (request other : Request) (rest others : List Request) (place : Place) → IsSome s.held → m.ahead ≡ request ∷ rest → All (IsAbsent s.held) (sought_places s.dirs m.sources request) →
    Finds s m other others place → ⊥
none_found s m request other rest others place told is none are =
    none_first s.held (sought_places s.dirs m.sources request) (sought_places s.dirs m.sources other) place told (same_places s m request other rest others is are.asked) none are.first

-- a file that is new wasn't met before
pub new_or_met : (known : List Known) (place other : Place) (number : ℕ) → place ≡ other → IsNew known place → IsAt known other number → ⊥
new_or_met known place other number same new at = new number (subst (λ p. IsAt known p number) (sym same) at)

-- ## Places are distinct

abbrev pub AreDistinct : List Known → Type 0
AreDistinct known = (place : Place) (i j : ℕ) → IsAt known place i → IsAt known place j → i ≡ j

none_distinct : AreDistinct []
none_distinct place i j is are = absurd (omega (arith, is.held))

at_old : (known : List Known) (k : Known) (place : Place) (i : ℕ) → i < length known → IsAt (known ++ k ∷ []) place i → IsAt known place i
at_old known k place i old at = record {
  held = old;
  place_of = ap (λ (x : Known). x.place) (sym (get_or_append_left known (k ∷ []) no_known i old)) ∙ at.place_of;
}

at_last : (known : List Known) (k : Known) (place : Place) (i : ℕ) → i ≡ length known → IsAt (known ++ k ∷ []) place i → k.place ≡ place
at_last known k place i last at =
    ap (λ (x : Known). x.place) (sym (get_or-append_seam known k [] no_known)) ∙ (ap (λ n. (known_at (known ++ k ∷ []) n).place) (sym last) ∙ at.place_of)

pub old_or_last : (known : List Known) (k : Known) (i : ℕ) → i < length (known ++ k ∷ []) → (i < length known) ⊎ (i ≡ length known)
old_or_last known k i within =
    elim (cases_order i (length known)) [
      | inl same ↦ inr same
      | inr apart ↦ elim apart [ inl old ↦ inl old | inr past ↦ absurd (omega (arith, length-append known (k ∷ []), within, past)) ]
    ]

distinct_more : (known : List Known) (k : Known) → AreDistinct known → IsNew known k.place → AreDistinct (known ++ k ∷ [])
distinct_more known k old new place i j is are =
    elim (old_or_last known k i is.held) [
      | inl i_old ↦ elim (old_or_last known k j are.held) [
        | inl j_old ↦ old place i j (at_old known k place i i_old is) (at_old known k place j j_old are)
        | inr j_last ↦ absurd (new_or_met known k.place place i (at_last known k place j j_last are) new (at_old known k place i i_old is))
      ]
      | inr i_last ↦ elim (old_or_last known k j are.held) [
        | inl j_old ↦ absurd (new_or_met known k.place place j (at_last known k place i i_last is) new (at_old known k place j j_old are))
        | inr j_last ↦ i_last ∙ sym j_last
      ]
    ]

distinct_after : (s : Setting) (before after : Moment) → AreDistinct before.known → Answered s before after → AreDistinct after.known
distinct_after s before after old (inl passes) = subst (λ ks. AreDistinct ks) (sym (ap (λ (m : Moment). m.known) passes.becomes)) old
distinct_after s before after old (inr (inl meets)) = subst (λ ks. AreDistinct ks) (sym (ap (λ (m : Moment). m.known) meets.becomes)) old
distinct_after s before after old (inr (inr adds)) =
    subst (λ ks. AreDistinct ks) (sym (ap (λ (m : Moment). m.known) adds.becomes)) (distinct_more before.known (found adds.request adds.place adds.includes) old adds.new)

pub distinct : (s : Setting) (answered : ℕ) (m : Moment) → Reached s answered m → AreDistinct m.known
distinct s zero m is = subst (λ (x : Moment). AreDistinct x.known) (sym is) none_distinct
distinct s (suc answered) m (before, reached, answers) = distinct_after s before m (distinct s answered before reached) answers

-- ## One answer

passes_once : (s : Setting) (m after other : Moment) → Passes s m after → Passes s m other → after ≡ other
passes_once s m after other is are =
    let rest = same_rest m (Line is.from is.depth is.include) (Line are.from are.depth are.include) is.rest are.rest is.asked are.asked in
    is.becomes ∙ ((λ i. record { known = m.known; sources = m.sources; ahead = rest i }) ∙ sym are.becomes)

passes_or_finds : (s : Setting) (m after : Moment) (request : Request) (rest : List Request) (place : Place) → IsSome s.held → Passes s m after → Finds s m request rest place → ⊥
passes_or_finds s m after request rest place told is finds = none_found s m (Line is.from is.depth is.include) request is.rest rest place told is.asked is.none finds

meets_once : (s : Setting) (m after other : Moment) → IsSome s.held → AreDistinct m.known → Meets s m after → Meets s m other → after ≡ other
meets_once s m after other told distinct is are =
    let request = same_request m is.request are.request is.rest are.rest is.finds.asked are.finds.asked in
    let rest = same_rest m is.request are.request is.rest are.rest is.finds.asked are.finds.asked in
    let place = found_once s m is.request are.request is.rest are.rest is.place are.place told is.finds are.finds in
    let number = distinct are.place is.number are.number (subst (λ p. IsAt m.known p is.number) place is.at) are.at in
    is.becomes ∙ ((λ i. record { known = m.known; sources = noted (request i) (number i) m.sources; ahead = rest i }) ∙ sym are.becomes)

meets_or_adds : (s : Setting) (m after other : Moment) → IsSome s.held → Meets s m after → Adds s m other → ⊥
meets_or_adds s m after other told is are =
    new_or_met m.known are.place is.place is.number (found_once s m are.request is.request are.rest is.rest are.place is.place told are.finds is.finds) are.new is.at

adds_once : (s : Setting) (m after other : Moment) → IsSome s.held → Adds s m after → Adds s m other → after ≡ other
adds_once s m after other told is are =
    let request = same_request m is.request are.request is.rest are.rest is.finds.asked are.finds.asked in
    let rest = same_rest m is.request are.request is.rest are.rest is.finds.asked are.finds.asked in
    let place = found_once s m is.request are.request is.rest are.rest is.place are.place told is.finds are.finds in
    let text = text_once s.held are.place is.text are.text told (subst (λ p. HasText s.held p is.text) place is.text_is) are.text_is in
    let lexed = subst (λ t. HasIncludes (count_of m.sources) t is.words is.includes) text is.lexed in
    let includes = includes_once (count_of m.sources) are.text is.words are.words is.includes are.includes lexed are.lexed in
    let words = places_once (count_of m.sources) are.text is.words are.words lexed.lexes are.lexed.lexes in
    is.becomes ∙ ((λ i. added (request i) (rest i) (found (request i) (place i) (includes i)) (text i) (words i) m) ∙ sym are.becomes)

pub answered_once : (s : Setting) (m after other : Moment) → IsSome s.held → AreDistinct m.known → Answered s m after → Answered s m other → after ≡ other
answered_once s m after other told distinct (inl is) (inl are) = passes_once s m after other is are
answered_once s m after other told distinct (inl is) (inr (inl are)) = absurd (passes_or_finds s m after are.request are.rest are.place told is are.finds)
answered_once s m after other told distinct (inl is) (inr (inr are)) = absurd (passes_or_finds s m after are.request are.rest are.place told is are.finds)
answered_once s m after other told distinct (inr (inl is)) (inl are) = absurd (passes_or_finds s m other is.request is.rest is.place told are is.finds)
answered_once s m after other told distinct (inr (inl is)) (inr (inl are)) = meets_once s m after other told distinct is are
answered_once s m after other told distinct (inr (inl is)) (inr (inr are)) = absurd (meets_or_adds s m after other told is are)
answered_once s m after other told distinct (inr (inr is)) (inl are) = absurd (passes_or_finds s m other is.request is.rest is.place told are is.finds)
answered_once s m after other told distinct (inr (inr is)) (inr (inl are)) = absurd (meets_or_adds s m other after told are is)
answered_once s m after other told distinct (inr (inr is)) (inr (inr are)) = adds_once s m after other told is are

-- one moment is reached after a number of answers
pub reached_once : (s : Setting) (answered : ℕ) (m other : Moment) → IsSome s.held → Reached s answered m → Reached s answered other → m ≡ other
reached_once s zero m other told is are = is ∙ sym are
reached_once s (suc answered) m other told (before, reached, answers) (before', reached', answers') =
    answered_once s before m other told (distinct s answered before reached) answers
    (subst (λ x. Answered s x other) (sym (reached_once s answered before before' told reached reached')) answers')

-- a moment that is reached later is reached by way of the earlier one
pub earlier : (s : Setting) (answered more : ℕ) (m : Moment) → Reached s (suc (more + answered)) m → (before : Moment) × (after : Moment) × Reached s answered before × Answered s before after
earlier s answered zero m (before, reached, answers) =
    let count : zero + answered ≡ answered = omega arith in
    (before, m, subst (λ n. Reached s n before) count reached, answers)
earlier s answered (suc more) m (before, reached, answers) =
    let count : suc more + answered ≡ suc (more + answered) = omega arith in
    earlier s answered more before (subst (λ n. Reached s n before) count reached)
