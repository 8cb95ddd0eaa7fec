-- A section has one meaning: its ranks, or its first line of another form.
use Rattle.std.proofs.Common.{◌≡◌, ℕ, zero, suc, ◌-◌, ◌<◌, ◌≤◌, inl, inr, List, [], ◌∷◌, ◌++◌, take, drop, Some, None, refl, sym, ap, subst, ◌∙◌, arith, take-append-drop}
use Rattle.std.proofs.lemmas.Bool.{cases_lt}
use Rattle.std.proofs.lemmas.Option.{same_Some}
use Rattle.p10_cert.proofs.Steps.{then_some, bind_is}
use Rattle.p10_turns.specs.Laws.{RangesAreLawful}
use Rattle.p10_diff.specs.Evidence.{Rank}
use Rattle.p10_diff.specs.Laws.{DifferencesAreLawful}
use Rattle.p10_diff_evidence.specs.Sections.{IsSection, IsFirstOther}
use Rattle.p10_diff_evidence.specs.Laws.{StandingIsLawful}
use Rattle.p10_diff_evidence.specs.private.Reading.{with_texts}
use Rattle.p10_diff_evidence.proofs.AllLines.{read_section, section_read}

pub section_tells : (lines : List (List ℕ)) (some others : List Rank) → IsSection lines some → IsSection lines others → some ≡ others
section_tells lines some others these those = same_Some some others (sym (section_read lines some these) ∙ section_read lines others those)

-- lines before others that are read are read
front_read : (lines others : List (List ℕ)) (ranks all : List Rank) → with_texts (lines ++ others) ranks ≡ Some all → (front : List Rank) × (with_texts lines ranks ≡ Some front)
front_read [] others ranks all e = (ranks, refl)
front_read (text ∷ lines) others ranks all e =
    then_some _ _ _ e (λ more put rest. let front = front_read lines others more all rest in (front.0, bind_is _ more _ _ put front.1))

-- the first lines of a section are a section
front_section : (n : ℕ) (lines : List (List ℕ)) (ranks : List Rank) → IsSection lines ranks → (front : List Rank) × IsSection (take n lines) front
front_section n lines ranks section =
    let front = front_read (take n lines) (drop n lines) [] ranks (ap (λ ls. with_texts ls []) (take-append-drop n lines) ∙ section_read lines ranks section) in
    (front.0, read_section (take n lines) front.0 front.1)

front_of_front : (m n : ℕ) (lines : List (List ℕ)) → m ≤ n → take m (take n lines) ≡ take m lines
front_of_front zero n lines few = refl
front_of_front (suc m) zero lines few = absurd (omega (arith, few))
front_of_front (suc m) (suc n) [] few = refl
front_of_front (suc m) (suc n) (x ∷ lines) few = ap (λ ls. x ∷ ls) (front_of_front m n lines (omega (arith, few)))

pub no_other : (lines : List (List ℕ)) (ranks : List Rank) (n : ℕ) → IsSection lines ranks → IsFirstOther lines n → ⊥
no_other lines ranks n section other = let front = front_section n lines ranks section in other.other front.0 front.1

not_earlier : (lines : List (List ℕ)) (m n : ℕ) → IsFirstOther lines m → IsFirstOther lines n → m < n → ⊥
not_earlier lines m n first second less =
    let front = front_section m (take (n - 1) lines) second.before.0 second.before.1 in
    first.other front.0 (subst (λ ls. IsSection ls front.0) (front_of_front m (n - 1) lines (omega (arith, less))) front.1)

-- two numbers of which none is below the other
level : (m n : ℕ) → (m < n → ⊥) → (n < m → ⊥) → m ≡ n
level m n low high =
    elim (cases_lt m n) [
      | inl lower ↦ absurd (low lower)
      | inr upper ↦ elim (cases_lt n m) [ inl lower ↦ absurd (high lower) | inr more ↦ omega (arith, upper, more) ]
    ]

pub one_first_other : (lines : List (List ℕ)) (m n : ℕ) → IsFirstOther lines m → IsFirstOther lines n → m ≡ n
one_first_other lines m n first second = level m n (not_earlier lines m n first second) (not_earlier lines n m second first)

-- ## What stands

pub standing_lawful : RangesAreLawful → DifferencesAreLawful → StandingIsLawful
standing_lawful by_ranges by_differences p whole None = by_ranges p whole
standing_lawful by_ranges by_differences p whole (Some ranks) = by_differences p whole ranks
