-- Pairings with more structures.
use Rattle.std.proofs.Common.{lt-ltb, le-leb, eq-eqb, ne_eqb, ltb-true, leb-true, eqb-true, ◌≡◌, ◌∙◌, ℕ, ◌+◌, ◌-◌, ◌<◌, ◌≤◌, Bool, true, false, ◌&&◌, ◌||◌, nat_eq, nat_lt, nat_le, List, Option, inl, inr, ◌⊎◌, ⊎_elim, refl, sym, ap, subst, arith}
use Rattle.std.proofs.lemmas.Bool.{and_parts}
use Rattle.p10_core.specs.Types.{PlainType}
use Rattle.p10_linkage.specs.Linkage.{PartType, LinkedType, Linked}
use Rattle.p10_elab.specs.Knowledge.{Known}
use Rattle.p10_renaming.specs.Renaming.{Pairs, Pairing, passing, SameType}
use Rattle.p10_expression_renaming.specs.Knowing.{IsOneToOne}
use Rattle.p10_pairing_laws.specs.Laws.{IsWithin}
use Rattle.p10_pairing_laws.proofs.Trees.{type_stays, within_passing}
use Rattle.p10_pairing_laws.proofs.Scopes.{both_stays, parameter_types_stay, scopes_stay_same}
use Rattle.p10_root_renaming.specs.Roots.{SameKnownTypes, same_none_known, same_more_known, SamePart, SameLinkedType, same_a_function, same_an_object, same_a_part_function, same_unknown_object, SameLinkeds, same_no_linked, same_more_linked, SameKnown}
use Rattle.p10_counterpart_renaming.specs.Runs.{structures_in, extended, SameSoFar}

-- ## Which structures are paired

either_true : (b c : Bool) → (b || c) ≡ true → (b ≡ true) ⊎ (c ≡ true)
either_true true c e = inl refl
either_true false c e = inr e

-- a pair that is new
record IsNewPair (from other count n m : ℕ) : Type 0 where
  least : from ≤ n
  below : n < from + count
  step : m + from ≡ n + other

new_pair : (from other count n m : ℕ) → ((nat_le from n && nat_lt n (from + count)) && nat_eq (m + from) (n + other)) ≡ true → IsNewPair from other count n m
new_pair from other count n m e =
    let p = and_parts (nat_le from n && nat_lt n (from + count)) (nat_eq (m + from) (n + other)) e in
    let q = and_parts (nat_le from n) (nat_lt n (from + count)) p.0 in
    record { least = leb-true from n q.0; below = ltb-true n (from + count) q.1; step = eqb-true (m + from) (n + other) p.1 }

pair_cases : (P : Pairs) (from other count n m : ℕ) → extended P from other count n m ≡ true → (P n m ≡ true) ⊎ IsNewPair from other count n m
pair_cases P from other count n m e =
    ⊎_elim (λ p. inl p) (λ p. inr (new_pair from other count n m p)) (either_true (P n m) ((nat_le from n && nat_lt n (from + count)) && nat_eq (m + from) (n + other)) e)

within_extended : (P : Pairs) (from other count n m : ℕ) → P n m ≡ true → extended P from other count n m ≡ true
within_extended P from other count n m e = ap (λ b. b || ((nat_le from n && nat_lt n (from + count)) && nat_eq (m + from) (n + other))) e

or_right : (b c : Bool) → c ≡ true → (b || c) ≡ true
or_right true c e = refl
or_right false c e = e

pair_new : (P : Pairs) (from other count n m : ℕ) → IsNewPair from other count n m → extended P from other count n m ≡ true
pair_new P from other count n m p =
    or_right (P n m) ((nat_le from n && nat_lt n (from + count)) && nat_eq (m + from) (n + other))
    (λ x. (le-leb from n p.least x && lt-ltb n (from + count) p.below x) && eq-eqb (m + from) (n + other) p.step x)

-- the next structures are paired
next_extended : (P : Pairs) (from other count i : ℕ) → i + from < from + count → extended P from other count (i + from) (i + other) ≡ true
next_extended P from other count i low = pair_new P from other count (i + from) (i + other) (record { least = omega arith; below = low; step = omega arith })

low_extended : (P : Pairs) (from other count : ℕ) → ((n m : ℕ) → P n m ≡ true → n < from) → (n m : ℕ) → extended P from other count n m ≡ true → n < from + count
low_extended P from other count low n m e = ⊎_elim (λ p. omega (arith, low n m p)) (λ p. p.below) (pair_cases P from other count n m e)

both_false : (a b c d : ℕ) → a < b → c < d → nat_eq a b ≡ nat_eq c d
both_false a b c d low other = ne_eqb a b (λ e. omega (arith, low, e)) ∙ sym (ne_eqb c d (λ e. omega (arith, other, e)))

false_both : (a b c d : ℕ) → b < a → d < c → nat_eq a b ≡ nat_eq c d
false_both a b c d low other = ne_eqb a b (λ e. omega (arith, low, e)) ∙ sym (ne_eqb c d (λ e. omega (arith, other, e)))

same_tests : (b c : Bool) → (b ≡ true → c ≡ true) → (c ≡ true → b ≡ true) → b ≡ c
same_tests true c f g = sym (f refl)
same_tests false true f g = g refl
same_tests false false f g = refl

new_both : (from other count n m i j : ℕ) → IsNewPair from other count n i → IsNewPair from other count m j → nat_eq n m ≡ nat_eq i j
new_both from other count n m i j p q =
    same_tests (nat_eq n m) (nat_eq i j) (λ e. let d : n ≡ m = eqb-true n m e in eq-eqb i j (omega (arith, d, p.step, q.step))) (λ e. let d : i ≡ j = eqb-true i j e in eq-eqb n m (omega (arith, d, p.step, q.step)))

-- each number is paired with one
abbrev PairOnce : Pairs → Type 0
PairOnce P = (n m i j : ℕ) → P n i ≡ true → P m j ≡ true → nat_eq n m ≡ nat_eq i j

one_extended : (P : Pairs) → PairOnce P → (from other count : ℕ) → ((n m : ℕ) → P n m ≡ true → n < from) → ((n m : ℕ) → P n m ≡ true → m < other) → PairOnce (extended P from other count)
one_extended P one from other count low high n m i j e d =
    ⊎_elim
    (λ p. ⊎_elim (λ q. one n m i j p q) (λ q. both_false n m i j (omega (arith, low n i p, q.least)) (omega (arith, high n i p, q.least, q.step))) (pair_cases P from other count m j d))
    (λ p. ⊎_elim (λ q. false_both n m i j (omega (arith, low m j q, p.least)) (omega (arith, high m j q, p.least, p.step))) (λ q. new_both from other count n m i j p q) (pair_cases P from other count m j d))
    (pair_cases P from other count n i e)

-- ## What is known

known_types_stay : (R Q : Pairing) → IsWithin R Q → {ts us : List (Option PlainType)} → SameKnownTypes R ts us → SameKnownTypes Q ts us
known_types_stay R Q more same_none_known = same_none_known
known_types_stay R Q more (same_more_known {t = t} {u = u} h rest) = same_more_known (both_stays (SameType R) (SameType Q) (λ a b k. type_stays R Q more k) t u h) (known_types_stay R Q more rest)

part_stays : (R Q : Pairing) → IsWithin R Q → (p q : PartType) → SamePart R p q → SamePart Q p q
part_stays R Q more p q h = record { parameters = known_types_stay R Q more h.parameters; list = h.list; result = both_stays (SameType R) (SameType Q) (λ a b k. type_stays R Q more k) p.result q.result h.result }

type_linked : (R Q : Pairing) → IsWithin R Q → {t u : LinkedType} → SameLinkedType R t u → SameLinkedType Q t u
type_linked R Q more (same_a_function ts h) = same_a_function (parameter_types_stay (passing R) (passing Q) (within_passing R Q more) ts) (type_stays R Q more h)
type_linked R Q more (same_an_object h) = same_an_object (type_stays R Q more h)
type_linked R Q more (same_a_part_function {p = p} {q = q} h) = same_a_part_function (part_stays R Q more p q h)
type_linked R Q more same_unknown_object = same_unknown_object

linkeds_stay : (R Q : Pairing) → IsWithin R Q → {ls ms : List Linked} → SameLinkeds R ls ms → SameLinkeds Q ls ms
linkeds_stay R Q more same_no_linked = same_no_linked
linkeds_stay R Q more (same_more_linked h rest) =
    same_more_linked (record { root = h.root; name = h.name; type = type_linked R Q more h.type; internal = h.internal; defines = h.defines; sensor = h.sensor }) (linkeds_stay R Q more rest)

-- with the next structures paired, up to a number of those that are used, and to another one of those that types of parameters name
abbrev pub extended_by : Pairing → Known → Known → ℕ → ℕ → Pairing
extended_by R k j used passed = record {
  used = extended R.used (structures_in k) (structures_in j) (used - structures_in k);
  passed = extended R.passed (structures_in k) (structures_in j) (passed - structures_in k);
}

pub within_by : (R : Pairing) (k j : Known) (used passed : ℕ) → IsWithin R (extended_by R k j used passed)
within_by R k j used passed = record {
  used = within_extended R.used (structures_in k) (structures_in j) (used - structures_in k);
  passed = within_extended R.passed (structures_in k) (structures_in j) (passed - structures_in k);
}

up_to : (from later : ℕ) → from ≤ later → from + (later - from) ≡ later
up_to from later low = omega (arith, low)

pub known_extended : (R : Pairing) (k j : Known) → SameSoFar R k j → (used passed : ℕ) → structures_in k ≤ used → SameKnown (extended_by R k j used passed) used k j
known_extended R k j so used passed low =
    let Q : Pairing = extended_by R k j used passed in
    let more : IsWithin R Q = within_by R k j used passed in
    let count : ℕ = used - structures_in k in
    record {
      standing = scopes_stay_same R Q more (structures_in k) used k.standing.scope j.standing.scope
          (λ n m e. ⊎_elim (λ p. inl p) (λ p. inr (p.least, omega (arith, p.least, p.step))) (pair_cases R.used (structures_in k) (structures_in j) count n m e))
          (λ i below. next_extended R.used (structures_in k) (structures_in j) count i (subst (λ z. i + structures_in k < z) (sym (up_to (structures_in k) used low)) below)) so.known.standing;
      root = so.known.root;
      linked = linkeds_stay R Q more so.known.linked;
      functions = so.known.functions;
    }

pub one_by : (R : Pairing) (k j : Known) → SameSoFar R k j → (used passed : ℕ) → used ≤ passed → IsOneToOne (extended_by R k j used passed)
one_by R k j so used passed few = record {
  numbers = one_extended R.passed so.one.numbers (structures_in k) (structures_in j) (passed - structures_in k) so.low so.high;
  within = λ n m e. ⊎_elim (λ p. within_extended R.passed (structures_in k) (structures_in j) (passed - structures_in k) n m (so.one.within n m p))
      (λ p. pair_new R.passed (structures_in k) (structures_in j) (passed - structures_in k) n m (record { least = p.least; below = omega (arith, p.least, p.below, few); step = p.step }))
      (pair_cases R.used (structures_in k) (structures_in j) (used - structures_in k) n m e);
}

-- a pair of those that are used is one of structures before their number
pub used_low : (R : Pairing) (k j : Known) → SameSoFar R k j → (used passed : ℕ) → structures_in k ≤ used → (n m : ℕ) → (extended_by R k j used passed).used n m ≡ true → n < used
used_low R k j so used passed low n m e =
    subst (λ z. n < z) (up_to (structures_in k) used low) (low_extended R.used (structures_in k) (structures_in j) (used - structures_in k) (λ i l p. so.low i l (so.one.within i l p)) n m e)

pub low_by : (R : Pairing) (k j : Known) → SameSoFar R k j → (used passed : ℕ) → structures_in k ≤ passed → (n m : ℕ) → (extended_by R k j used passed).passed n m ≡ true → n < passed
low_by R k j so used passed low n m e = subst (λ z. n < z) (up_to (structures_in k) passed low) (low_extended R.passed (structures_in k) (structures_in j) (passed - structures_in k) so.low n m e)

-- each is there in the second program, if those are that are new
pub high_by : (R : Pairing) (k j b : Known) → SameSoFar R k j → (used passed : ℕ) → structures_in k ≤ passed → structures_in j ≤ structures_in b
    → ((n m : ℕ) → (extended_by R k j passed passed).used n m ≡ true → n < passed → m < structures_in b) → (n m : ℕ) → (extended_by R k j used passed).passed n m ≡ true → m < structures_in b
high_by R k j b so used passed low more new n m e =
    ⊎_elim (λ p. omega (arith, so.high n m p, more))
    (λ p. new n m (pair_new R.used (structures_in k) (structures_in j) (passed - structures_in k) n m p) (subst (λ z. n < z) (up_to (structures_in k) passed low) p.below))
    (pair_cases R.passed (structures_in k) (structures_in j) (passed - structures_in k) n m e)
