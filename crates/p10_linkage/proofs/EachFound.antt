-- Types that are compatible are found to be: each pair of structures is compared at most once, and there are no more pairs than are allowed.
use Rattle.std.proofs.Common.{◌≡◌, ℕ, zero, suc, ◌+◌, ◌*◌, ◌<◌, ◌≤◌, nat_eq, Bool, true, false, ◌&&◌, ◌||◌, if◌then◌else◌, List, [], ◌∷◌, ◌++◌, length, Option, Some, None, is_some, slice_get, bytes_eq, refl, sym, ◌∙◌, ap, arith, ◌⊎◌, inl, inr}
use Rattle.std.specs.Bool.{beq}
use Rattle.p10_core.specs.Types.{PlainType, void, integer, pointer, array, structure, PlainMember, PlainBody, PlainStructure, body_of}
use Rattle.p10_linkage.specs.Uniting.{tagged_alike, and_then}
use Rattle.p10_linkage.specs.Compatible.{Pairs, were_met, is_settled, members_compatible, bodies_compatible, structures_compatible, types_compatible, compatible_within, compatible_after}
use Rattle.p10_linkage.specs.Laws.{are_compatible_by, members_compatible_by, bodies_compatible_by, AreCompatiblePairs, CompatibleTypesAreFound}
use Rattle.p10_linkage.proofs.ComparedWell.{parts, either, left, Stay, met_before, met_last}

-- ## How many pairs weren't met

clash : {P : Type 0} (b : Bool) → b ≡ true → b ≡ false → P
clash true e f = absurd cc
clash false e f = absurd cc

abbrev one_unless : Bool → ℕ
one_unless true = 0
one_unless false = 1

-- with one of the first k structures
abbrev unmet_with : ℕ → ℕ → Pairs → ℕ
unmet_with m zero ps = 0
unmet_with m (suc k) ps = one_unless (were_met m k ps) + unmet_with m k ps

-- of each of the first r structures with one of the first k
abbrev unmet : ℕ → ℕ → Pairs → ℕ
unmet zero k ps = 0
unmet (suc r) k ps = unmet_with r k ps + unmet r k ps

at_most_one : (b : Bool) → one_unless b ≤ 1
at_most_one true = omega arith
at_most_one false = omega arith

sum_few : (a b k : ℕ) → a ≤ 1 → b ≤ k → a + b ≤ suc k
sum_few a b k h g = omega (arith, h, g)

with_few : (m k : ℕ) (ps : Pairs) → unmet_with m k ps ≤ k
with_few m zero ps = omega arith
with_few m (suc k) ps = sum_few (one_unless (were_met m k ps)) (unmet_with m k ps) k (at_most_one (were_met m k ps)) (with_few m k ps)

product_few : (a b r k : ℕ) → a ≤ k → b ≤ r * k → a + b ≤ suc r * k
product_few a b r k h g = let more : suc r * k ≡ k + r * k = omega arith in omega (arith, h, g, more)

all_few : (r k : ℕ) (ps : Pairs) → unmet r k ps ≤ r * k
all_few zero k ps = omega arith
all_few (suc r) k ps = product_few (unmet_with r k ps) (unmet r k ps) r k (with_few r k ps) (all_few r k ps)

-- ## More pairs are met

sums_stay : (a b c d : ℕ) → a ≤ b → c ≤ d → a + c ≤ b + d
sums_stay a b c d h g = omega (arith, h, g)

first_less : (a b c d : ℕ) → a < b → c ≤ d → a + c < b + d
first_less a b c d h g = omega (arith, h, g)

second_less : (a b c d : ℕ) → a ≤ b → c < d → a + c < b + d
second_less a b c d h g = omega (arith, h, g)

one_stays : (b c : Bool) → (b ≡ true → c ≡ true) → one_unless c ≤ one_unless b
one_stays true true h = omega arith
one_stays true false h = let e : false ≡ true = h refl in absurd cc
one_stays false true h = omega arith
one_stays false false h = omega arith

one_less : (b c : Bool) → b ≡ false → c ≡ true → one_unless c < one_unless b
one_less true c e f = absurd cc
one_less false true e f = omega arith
one_less false false e f = absurd cc

with_stays : (m k : ℕ) (ps qs : Pairs) → Stay ps qs → unmet_with m k qs ≤ unmet_with m k ps
with_stays m zero ps qs h = omega arith
with_stays m (suc k) ps qs h =
    sums_stay (one_unless (were_met m k qs)) (one_unless (were_met m k ps)) (unmet_with m k qs) (unmet_with m k ps)
    (one_stays (were_met m k ps) (were_met m k qs) (h m k)) (with_stays m k ps qs h)

all_stay : (r k : ℕ) (ps qs : Pairs) → Stay ps qs → unmet r k qs ≤ unmet r k ps
all_stay zero k ps qs h = omega arith
all_stay (suc r) k ps qs h =
    sums_stay (unmet_with r k qs) (unmet_with r k ps) (unmet r k qs) (unmet r k ps) (with_stays r k ps qs h) (all_stay r k ps qs h)

last_or_before : (n k : ℕ) → n < suc k → (n ≡ k) ⊎ (n < k)
last_or_before zero zero h = inl refl
last_or_before zero (suc k) h = inr (omega arith)
last_or_before (suc n) zero h = absurd (omega (arith, h))
last_or_before (suc n) (suc k) h = elim (last_or_before n k (omega (arith, h))) as (λ _. (suc n ≡ suc k) ⊎ (suc n < suc k)) [
  | inl same ↦ inl (ap suc same)
  | inr less ↦ inr (omega (arith, less))
]

-- one pair more
with_less : (m n k : ℕ) (ps qs : Pairs) → Stay ps qs → were_met m n ps ≡ false → were_met m n qs ≡ true → n < k → unmet_with m k qs < unmet_with m k ps
with_less m n zero ps qs stay new met h = absurd (omega (arith, h))
with_less m n (suc k) ps qs stay new met h = elim (last_or_before n k h) as (λ _. unmet_with m (suc k) qs < unmet_with m (suc k) ps) [
  | inl same ↦ first_less (one_unless (were_met m k qs)) (one_unless (were_met m k ps)) (unmet_with m k qs) (unmet_with m k ps)
      (one_less (were_met m k ps) (were_met m k qs) (sym (ap (λ j. were_met m j ps) same) ∙ new) (sym (ap (λ j. were_met m j qs) same) ∙ met)) (with_stays m k ps qs stay)
  | inr less ↦ second_less (one_unless (were_met m k qs)) (one_unless (were_met m k ps)) (unmet_with m k qs) (unmet_with m k ps)
      (one_stays (were_met m k ps) (were_met m k qs) (stay m k)) (with_less m n k ps qs stay new met less)
]

all_less : (m n r k : ℕ) (ps qs : Pairs) → Stay ps qs → were_met m n ps ≡ false → were_met m n qs ≡ true → m < r → n < k → unmet r k qs < unmet r k ps
all_less m n zero k ps qs stay new met h g = absurd (omega (arith, h))
all_less m n (suc r) k ps qs stay new met h g = elim (last_or_before m r h) as (λ _. unmet (suc r) k qs < unmet (suc r) k ps) [
  | inl same ↦ first_less (unmet_with r k qs) (unmet_with r k ps) (unmet r k qs) (unmet r k ps)
      (with_less r n k ps qs stay (sym (ap (λ i. were_met i n ps) same) ∙ new) (sym (ap (λ i. were_met i n qs) same) ∙ met) g) (all_stay r k ps qs stay)
  | inr less ↦ second_less (unmet_with r k qs) (unmet_with r k ps) (unmet r k qs) (unmet r k ps) (with_stays r k ps qs stay) (all_less m n r k ps qs stay new met less g)
]

-- ## What is found

-- pairs are found in which those before stay
record Found (o : Option Pairs) (ps : Pairs) : Type 0 where
  pub pairs : Pairs
  pub is : o ≡ Some pairs
  pub stay : Stay ps pairs

-- two structures that are settled by pairs are found compatible, where so many pairs more may be compared as weren't met
abbrev Finds : List PlainStructure → Pairs → ℕ → (ℕ → ℕ → Pairs → Option Pairs) → Type 0
Finds ss all more compare =
    (m n : ℕ) (ps : Pairs) → is_settled m n all ≡ true → unmet (length ss) (length ss) ps ≤ more → Found (compare m n ps) ps

abbrev FindsTypes : List PlainStructure → Pairs → ℕ → (PlainType → PlainType → Pairs → Option Pairs) → Type 0
FindsTypes ss all more compare =
    (t u : PlainType) (ps : Pairs) → are_compatible_by all t u ≡ true → unmet (length ss) (length ss) ps ≤ more → Found (compare t u ps) ps

types_found : (ss : List PlainStructure) (all : Pairs) (more : ℕ) (compare : ℕ → ℕ → Pairs → Option Pairs) → Finds ss all more compare → FindsTypes ss all more (types_compatible compare)
types_found ss all more compare h (void c) (void d) ps e few = record { pairs = ps; is = ap (λ b. if b then Some ps else None) e; stay = λ i j x. x }
types_found ss all more compare h (void c) (integer d j) ps e few = absurd cc
types_found ss all more compare h (void c) (pointer d u) ps e few = absurd cc
types_found ss all more compare h (void c) (array d u n) ps e few = absurd cc
types_found ss all more compare h (void c) (structure d n) ps e few = absurd cc
types_found ss all more compare h (integer c i) (void d) ps e few = absurd cc
types_found ss all more compare h (integer c i) (integer d j) ps e few = record { pairs = ps; is = ap (λ b. if b then Some ps else None) e; stay = λ i j x. x }
types_found ss all more compare h (integer c i) (pointer d u) ps e few = absurd cc
types_found ss all more compare h (integer c i) (array d u n) ps e few = absurd cc
types_found ss all more compare h (integer c i) (structure d n) ps e few = absurd cc
types_found ss all more compare h (pointer c t) (void d) ps e few = absurd cc
types_found ss all more compare h (pointer c t) (integer d j) ps e few = absurd cc
types_found ss all more compare h (pointer c t) (pointer d u) ps e few =
    let is : (beq c d ≡ true) × (are_compatible_by all t u ≡ true) = parts (beq c d) (are_compatible_by all t u) e in
    let found : Found (types_compatible compare t u ps) ps = types_found ss all more compare h t u ps is.1 few in
    record { pairs = found.pairs; is = ap (λ b. if b then types_compatible compare t u ps else None) is.0 ∙ found.is; stay = found.stay }
types_found ss all more compare h (pointer c t) (array d u n) ps e few = absurd cc
types_found ss all more compare h (pointer c t) (structure d n) ps e few = absurd cc
types_found ss all more compare h (array c t m) (void d) ps e few = absurd cc
types_found ss all more compare h (array c t m) (integer d j) ps e few = absurd cc
types_found ss all more compare h (array c t m) (pointer d u) ps e few = absurd cc
types_found ss all more compare h (array c t m) (array d u n) ps e few =
    let is : (nat_eq m n ≡ true) × (are_compatible_by all t u ≡ true) = parts (nat_eq m n) (are_compatible_by all t u) e in
    let found : Found (types_compatible compare t u ps) ps = types_found ss all more compare h t u ps is.1 few in
    record { pairs = found.pairs; is = ap (λ b. if b then types_compatible compare t u ps else None) is.0 ∙ found.is; stay = found.stay }
types_found ss all more compare h (array c t m) (structure d n) ps e few = absurd cc
types_found ss all more compare h (structure c m) (void d) ps e few = absurd cc
types_found ss all more compare h (structure c m) (integer d j) ps e few = absurd cc
types_found ss all more compare h (structure c m) (pointer d u) ps e few = absurd cc
types_found ss all more compare h (structure c m) (array d u n) ps e few = absurd cc
types_found ss all more compare h (structure c m) (structure d n) ps e few =
    let is : (beq c d ≡ true) × (is_settled m n all ≡ true) = parts (beq c d) (is_settled m n all) e in
    let found : Found (compare m n ps) ps = h m n ps is.1 few in
    record { pairs = found.pairs; is = ap (λ b. if b then compare m n ps else None) is.0 ∙ found.is; stay = found.stay }

members_found : (ss : List PlainStructure) (all : Pairs) (more : ℕ) (compare : PlainType → PlainType → Pairs → Option Pairs) → FindsTypes ss all more compare → (ms ks : List PlainMember) (ps : Pairs) →
    members_compatible_by all ms ks ≡ true → unmet (length ss) (length ss) ps ≤ more → Found (members_compatible compare ms ks ps) ps
members_found ss all more compare h [] [] ps e few = record { pairs = ps; is = refl; stay = λ i j x. x }
members_found ss all more compare h [] (k ∷ ks) ps e few = absurd cc
members_found ss all more compare h (m ∷ ms) [] ps e few = absurd cc
members_found ss all more compare h (m ∷ ms) (k ∷ ks) ps e few =
    let rest : Bool = are_compatible_by all m.type k.type && members_compatible_by all ms ks in
    let is : (bytes_eq m.name k.name ≡ true) × (rest ≡ true) = parts (bytes_eq m.name k.name) rest e in
    let next : (are_compatible_by all m.type k.type ≡ true) × (members_compatible_by all ms ks ≡ true) = parts (are_compatible_by all m.type k.type) (members_compatible_by all ms ks) is.1 in
    let one : Found (compare m.type k.type ps) ps = h m.type k.type ps next.0 few in
    let stay : unmet (length ss) (length ss) one.pairs ≤ unmet (length ss) (length ss) ps = all_stay (length ss) (length ss) ps one.pairs one.stay in
    let others : Found (members_compatible compare ms ks one.pairs) one.pairs = members_found ss all more compare h ms ks one.pairs next.1 (omega (arith, few, stay)) in
    record {
      pairs = others.pairs;
      is =
          ap (λ b. if b then and_then (compare m.type k.type ps) (members_compatible compare ms ks) else None) is.0
          ∙ ap (λ o. and_then o (members_compatible compare ms ks)) one.is
          ∙ others.is;
      stay = λ i j x. others.stay i j (one.stay i j x);
    }

bodies_found : (ss : List PlainStructure) (all : Pairs) (more : ℕ) (compare : PlainType → PlainType → Pairs → Option Pairs) → FindsTypes ss all more compare → (a b : Option PlainBody) (ps : Pairs) →
    bodies_compatible_by all a b ≡ true → unmet (length ss) (length ss) ps ≤ more → Found (bodies_compatible compare a b ps) ps
bodies_found ss all more compare h (Some a) (Some b) ps e few = members_found ss all more compare h a.members b.members ps e few
bodies_found ss all more compare h (Some a) None ps e few = record { pairs = ps; is = refl; stay = λ i j x. x }
bodies_found ss all more compare h None (Some b) ps e few = record { pairs = ps; is = refl; stay = λ i j x. x }
bodies_found ss all more compare h None None ps e few = record { pairs = ps; is = refl; stay = λ i j x. x }

-- ## Structures

is_there : {A : Type 0} (xs : List A) (n : ℕ) → is_some (slice_get xs n) ≡ true → n < length xs
is_there [] n e = absurd cc
is_there (x ∷ xs) zero e = omega arith
is_there (x ∷ xs) (suc n) e = let less : n < length xs = is_there xs n e in omega (arith, less)

both_there : (o p : Option PlainStructure) → tagged_alike o p ≡ true → (is_some o ≡ true) × (is_some p ≡ true)
both_there (Some s) (Some t) e = (refl, refl)
both_there (Some s) None e = absurd cc
both_there None (Some t) e = absurd cc
both_there None None e = absurd cc

-- a pair that is new is one of those that weren't met
pair_less : (ss : List PlainStructure) (m n : ℕ) (ps : Pairs) → were_met m n ps ≡ false → tagged_alike (slice_get ss m) (slice_get ss n) ≡ true →
    unmet (length ss) (length ss) (ps ++ (m, n) ∷ []) < unmet (length ss) (length ss) ps
pair_less ss m n ps new alike =
    let there : (is_some (slice_get ss m) ≡ true) × (is_some (slice_get ss n) ≡ true) = both_there (slice_get ss m) (slice_get ss n) alike in
    all_less m n (length ss) (length ss) ps (ps ++ (m, n) ∷ []) (λ i j x. met_before i j ps ((m, n) ∷ []) x) new (met_last m n ps) (is_there ss m there.0) (is_there ss n there.1)

neither_is : (a b : Bool) → (a || b) ≡ false → (a ≡ false) × (b ≡ false)
neither_is true b e = absurd cc
neither_is false b e = (refl, e)

-- a pair that is settled by all and not by those that were met is among all, and new
abbrev IsNew : Pairs → Pairs → ℕ → ℕ → Type 0
IsNew all ps m n = (were_met m n all ≡ true) × (were_met m n ps ≡ false)

is_new : (all ps : Pairs) (m n : ℕ) → is_settled m n all ≡ true → is_settled m n ps ≡ false → IsNew all ps m n
is_new all ps m n e f =
    let none : (nat_eq m n ≡ false) × (were_met m n ps ≡ false) = neither_is (nat_eq m n) (were_met m n ps) f in
    elim (either (nat_eq m n) (were_met m n all) e) as (λ _. IsNew all ps m n) [
      | inl same ↦ clash (nat_eq m n) same none.0
      | inr met ↦ (met, none.1)
    ]

-- two structures that are found compatible by what is found of fewer pairs
found_next : (more : ℕ) (ss : List PlainStructure) (all : Pairs) → AreCompatiblePairs ss all → Finds ss all more (compatible_within more ss) → Finds ss all (suc more) (compatible_within (suc more) ss)
found_next more ss all good rest m n ps e few = by_test (is_settled m n ps) refl
  where
    compare : PlainType → PlainType → Pairs → Option Pairs
    compare = types_compatible (compatible_within more ss)

    by_test : (b : Bool) → is_settled m n ps ≡ b → Found (if b then Some ps else structures_compatible compare ss m n ps) ps
    by_test true is = record { pairs = ps; is = refl; stay = λ i j x. x }
    by_test false is =
        let new : IsNew all ps m n = is_new all ps m n e is in
        let fits : (tagged_alike (slice_get ss m) (slice_get ss n) ≡ true) × (bodies_compatible_by all (body_of ss m) (body_of ss n) ≡ true) = good m n new.0 in
        let less : unmet (length ss) (length ss) (ps ++ (m, n) ∷ []) < unmet (length ss) (length ss) ps = pair_less ss m n ps new.1 fits.0 in
        let found : Found (bodies_compatible compare (body_of ss m) (body_of ss n) (ps ++ (m, n) ∷ [])) (ps ++ (m, n) ∷ []) =
        bodies_found ss all more compare (types_found ss all more (compatible_within more ss) rest) (body_of ss m) (body_of ss n) (ps ++ (m, n) ∷ []) fits.1 (omega (arith, few, less)) in
        record {
          pairs = found.pairs;
          is = ap (λ b. if b then bodies_compatible compare (body_of ss m) (body_of ss n) (ps ++ (m, n) ∷ []) else None) fits.0 ∙ found.is;
          stay = λ i j x. found.stay i j (met_before i j ps ((m, n) ∷ []) x);
        }

within_found : (more : ℕ) (ss : List PlainStructure) (all : Pairs) → AreCompatiblePairs ss all → Finds ss all more (compatible_within more ss)
within_found zero ss all good m n ps e few = by_test (is_settled m n ps) refl
  where
    by_test : (b : Bool) → is_settled m n ps ≡ b → Found (if b then Some ps else None) ps
    by_test true is = record { pairs = ps; is = refl; stay = λ i j x. x }
    by_test false is =
        let new : IsNew all ps m n = is_new all ps m n e is in
        let less : unmet (length ss) (length ss) (ps ++ (m, n) ∷ []) < unmet (length ss) (length ss) ps = pair_less ss m n ps new.1 (good m n new.0).0 in
        absurd (omega (arith, few, less))
within_found (suc more) ss all good m n ps e few = found_next more ss all good (within_found more ss all good) m n ps e few

-- ## All

pub compatible_types_are_found : CompatibleTypesAreFound
compatible_types_are_found ss all t u good e =
    let found : Found (compatible_after ss t u []) [] =
    types_found ss all (length ss * length ss) (compatible_within (length ss * length ss) ss) (within_found (length ss * length ss) ss all good) t u [] e (all_few (length ss) (length ss) []) in
    ap is_some found.is
