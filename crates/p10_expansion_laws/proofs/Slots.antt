-- How many files may still be gathered: 256 that are no built-in headers, and the headers, each of which is gathered once.
use Rattle.std.proofs.Common.{◌≡◌, ℕ, suc, ◌+◌, ◌-◌, ◌<◌, ◌≤◌, List, [], ◌∷◌, ◌++◌, length, Bool, true, false, ◌||◌, cond, codes, refl, sym, ◌∙◌, ap, subst, inl, inr, ◌⊎◌, arith, length-append, Option, Some}
use Rattle.std.specs.Prelude.{IsSome, bytes_eq, not}
use Rattle.std.specs.List.{filter, list_any}
use Rattle.std.proofs.lemmas.Bool.{both_ways}
use Rattle.std.proofs.lemmas.Slice.Eq.{bytes_eq-Decides}
use Rattle.std.proofs.lemmas.List.Elements.{filter-append}
use Rattle.p10_base.specs.declared.report.TheConstants.Limit.{MOST_FILES}
use Rattle.p10_base.specs.Words.{Text}
use Rattle.p10_expand.specs.declared.place.Place.{Place}
use Rattle.p10_expand.specs.declared.place.Place.TheVariants.{File, Header}
use Rattle.p10_expand.specs.declared.gathering.Known.{Known}
use Rattle.p10_expand.specs.Headers.{header_of}
use Rattle.p10_expand.specs.Finding.{is_header_place}
use Rattle.p10_expand.specs.Gathering.{IsAt, IsNew, present, HasRoom}

-- ## Headers that were gathered

-- whether a place is that of the built-in header with this name
abbrev is_header_at : Text → Place → Bool
is_header_at name (File other) = false
is_header_at name (Header other) = bytes_eq name other

-- whether the built-in header with this name was gathered
abbrev is_known : List Known → Text → Bool
is_known [] name = false
is_known (first ∷ known) name = is_header_at name first.place || is_known known name

-- how many of the headers with these names weren't gathered
abbrev missing : List Known → List Text → ℕ
missing known [] = 0
missing known (name ∷ names) = cond (is_known known name) 0 1 + missing known names

-- the names of the built-in headers
abbrev header_names : List Text
header_names = codes "stdint.h" ∷ codes "stdbool.h" ∷ codes "stddef.h" ∷ codes "stdlib.h" ∷ codes "stdio.h" ∷ codes "limits.h" ∷ codes "assert.h" ∷ codes "p10.h" ∷ []

-- how many files may still be gathered
abbrev pub slots_of : List Known → ℕ
slots_of known = (MOST_FILES - present known) + missing known header_names

-- ## One file more

or_left : (b c : Bool) → b ≡ true → b || c ≡ true
or_left true c e = refl
or_left false c e = absurd cc

or_right : (b c : Bool) → c ≡ true → b || c ≡ true
or_right true c e = refl
or_right false c e = e

or_cases : (b c : Bool) → b || c ≡ true → (b ≡ true) ⊎ (c ≡ true)
or_cases true c e = inl refl
or_cases false c e = inr e

known_more : (known : List Known) (k : Known) (name : Text) → is_known known name ≡ true → is_known (known ++ k ∷ []) name ≡ true
known_more [] k name e = absurd cc
known_more (first ∷ known) k name e =
    elim (or_cases (is_header_at name first.place) (is_known known name) e) [
      | inl here ↦ or_left _ _ here
      | inr there ↦ or_right (is_header_at name first.place) _ (known_more known k name there)
    ]

known_last : (known : List Known) (k : Known) (name : Text) → is_header_at name k.place ≡ true → is_known (known ++ k ∷ []) name ≡ true
known_last [] k name e = or_left _ _ e
known_last (first ∷ known) k name e = or_right (is_header_at name first.place) _ (known_last known k name e)

cost_more : (old new : Bool) → (old ≡ true → new ≡ true) → cond new 0 1 ≤ cond old 0 1
cost_more true new more = let e = more refl in subst (λ b. cond b 0 1 ≤ 0) (sym e) (omega arith)
cost_more false true more = omega arith
cost_more false false more = omega arith

missing_more : (known : List Known) (k : Known) (names : List Text) → missing (known ++ k ∷ []) names ≤ missing known names
missing_more known k [] = omega arith
missing_more known k (name ∷ names) =
    let first = cost_more (is_known known name) (is_known (known ++ k ∷ []) name) (known_more known k name) in
    let others = missing_more known k names in
    omega (arith, first, others)

one_less : (old new : Bool) → old ≡ false → new ≡ true → cond old 0 1 ≡ suc (cond new 0 1)
one_less old new e f = rw (e, f) refl

missing_less : (known : List Known) (k : Known) (wanted : Text) (names : List Text) → is_known known wanted ≡ false → is_header_at wanted k.place ≡ true → list_any (bytes_eq wanted) names ≡ true →
    missing (known ++ k ∷ []) names < missing known names
missing_less known k wanted [] new last e = absurd cc
missing_less known k wanted (name ∷ names) new last e =
    elim (or_cases (bytes_eq wanted name) (list_any (bytes_eq wanted) names) e) [
      | inl here ↦
          let same : wanted ≡ name = (bytes_eq-Decides wanted name).0 here in
          let cost = one_less (is_known known name) (is_known (known ++ k ∷ []) name) (subst (λ n. is_known known n ≡ false) same new) (known_last known k name (subst (λ n. is_header_at n k.place ≡ true) same last)) in
          let others = missing_more known k names in
          omega (arith, cost, others)
      | inr there ↦
          let cost = cost_more (is_known known name) (is_known (known ++ k ∷ []) name) (known_more known k name) in
          let others = missing_less known k wanted names new last there in
          omega (arith, cost, others)
    ]

-- ## A header that is there is one of those

or_there : {A : Type 0} (b : Bool) (x : A) (o : Option A) (others : Bool) → (IsSome o → others ≡ true) → IsSome (cond b (Some x) o) → b || others ≡ true
or_there true x o others each p = refl
or_there false x o others each p = each p

header_named : (name : Text) → IsSome (header_of name) → list_any (bytes_eq name) header_names ≡ true
header_named name there =
    or_there (bytes_eq name (codes "stdint.h")) _ _ _
    (or_there (bytes_eq name (codes "stdbool.h")) _ _ _
    (or_there (bytes_eq name (codes "stddef.h")) _ _ _
    (or_there (bytes_eq name (codes "stdlib.h")) _ _ _
    (or_there (bytes_eq name (codes "stdio.h")) _ _ _
    (or_there (bytes_eq name (codes "limits.h")) _ _ _
    (or_there (bytes_eq name (codes "assert.h")) _ _ _
    (or_there (bytes_eq name (codes "p10.h")) _ _ _
    (λ none. absurd (both_ways false refl none))))))))) there

-- ## New files

header_place : (name : Text) (place : Place) → is_header_at name place ≡ true → place ≡ Header name
header_place name (File other) e = absurd cc
header_place name (Header other) e = ap Header (sym ((bytes_eq-Decides name other).0 e))

known_at_place : (known : List Known) (name : Text) → is_known known name ≡ true → (number : ℕ) × IsAt known (Header name) number
known_at_place [] name e = absurd cc
known_at_place (first ∷ known) name e =
    elim (or_cases (is_header_at name first.place) (is_known known name) e) [
      | inl here ↦ (0, record { held = omega arith; place_of = header_place name first.place here })
      | inr there ↦
          let at = known_at_place known name there in
          (suc at.0, record { held = omega (arith, at.1.held); place_of = at.1.place_of })
    ]

not_known_by : (known : List Known) (name : Text) (b : Bool) → is_known known name ≡ b → IsNew known (Header name) → is_known known name ≡ false
not_known_by known name true e new = absurd (let at = known_at_place known name e in new at.0 at.1)
not_known_by known name false e new = e

not_known : (known : List Known) (name : Text) → IsNew known (Header name) → is_known known name ≡ false
not_known known name new = not_known_by known name (is_known known name) refl new

same_bytes : (name : Text) → bytes_eq name name ≡ true
same_bytes name = (bytes_eq-Decides name name).1 refl

present_more : (known : List Known) (k : Known) → present (known ++ k ∷ []) ≡ present known + length (filter (λ (file : Known). not (is_header_place file.place)) (k ∷ []))
present_more known k = ap length (filter-append (λ (file : Known). not (is_header_place file.place)) known (k ∷ [])) ∙ length-append (filter (λ (file : Known). not (is_header_place file.place)) known) (filter (λ (file : Known). not (is_header_place file.place)) (k ∷ []))

kept_one : (k : Known) (b : Bool) → not (is_header_place k.place) ≡ b → length (filter (λ (file : Known). not (is_header_place file.place)) (k ∷ [])) ≡ cond b 1 0
kept_one k true e = ap (λ b. length (cond b (k ∷ []) [])) e
kept_one k false e = ap (λ b. length (cond b (k ∷ []) [])) e

file_less : (known : List Known) (k : Known) (name : Text) → k.place ≡ File name → present known < MOST_FILES → slots_of (known ++ k ∷ []) < slots_of known
file_less known k name is room =
    let more = missing_more known k header_names in
    let one = present_more known k ∙ ap (λ n. present known + n) (kept_one k true (ap (λ p. not (is_header_place p)) is)) in
    omega (arith, more, one, room)

header_less : (known : List Known) (k : Known) (name : Text) → k.place ≡ Header name → IsNew known (Header name) → IsSome (header_of name) → slots_of (known ++ k ∷ []) < slots_of known
header_less known k name is new there =
    let less = missing_less known k name header_names (not_known known name new) (subst (λ p. is_header_at name p ≡ true) (sym is) (same_bytes name)) (header_named name there) in
    let none = present_more known k ∙ ap (λ n. present known + n) (kept_one k false (ap (λ p. not (is_header_place p)) is)) in
    omega (arith, less, none)

-- a new file for which there is room takes one
pub one_slot_less : (known : List Known) (k : Known) (place : Place) → k.place ≡ place → IsNew known place → HasRoom known place → ((name : Text) → place ≡ Header name → IsSome (header_of name)) → slots_of (known ++ k ∷ []) < slots_of known
one_slot_less known k (File name) is new room there = file_less known k name is room
one_slot_less known k (Header name) is new room there = header_less known k name is new (there name refl)
