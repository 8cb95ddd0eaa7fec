-- Types that are found compatible are so by the pairs that were compared.
use Rattle.std.proofs.Common.{◌≡◌, ℕ, zero, suc, ◌*◌, nat_eq, Bool, true, false, ◌&&◌, ◌||◌, if◌then◌else◌, List, [], ◌∷◌, ◌++◌, length, Option, Some, None, slice_get, bytes_eq, refl, ◌∙◌, ap, subst, ◌⊎◌, inl, inr}
use Rattle.std.proofs.lemmas.Bool.{eqb-true, eq-eqb}
use Rattle.std.specs.Bool.{beq}
use Rattle.p10_core.specs.Types.{PlainType, void, integer, pointer, array, structure, PlainMember, PlainBody, PlainStructure, body_of}
use Rattle.p10_core.specs.Rows.{same_integer}
use Rattle.p10_linkage.specs.Uniting.{tagged_alike, and_then}
use Rattle.p10_linkage.specs.Compatible.{Pairs, were_met, is_settled, members_compatible, bodies_compatible, structures_compatible, types_compatible, compatible_within}
use Rattle.p10_linkage.specs.Laws.{are_compatible_by, members_compatible_by, bodies_compatible_by, ComparedTypesAreCompatible}
use Rattle.p10_linkage.proofs.OneType.{some_is, none_is_not, some_if, some_then}

-- ## Tests

pub both : (a b : Bool) → a ≡ true → b ≡ true → (a && b) ≡ true
both a b e f = ap (λ x. x && b) e ∙ f

pub parts : (a b : Bool) → (a && b) ≡ true → (a ≡ true) × (b ≡ true)
parts true b e = (refl, e)
parts false b e = absurd cc

pub either : (a b : Bool) → (a || b) ≡ true → (a ≡ true) ⊎ (b ≡ true)
either true b e = inl refl
either false b e = inr e

pub left : (a b : Bool) → a ≡ true → (a || b) ≡ true
left a b e = ap (λ x. x || b) e

pub right : (a b : Bool) → b ≡ true → (a || b) ≡ true
right true b e = refl
right false b e = e

-- ## More pairs

-- pairs that stay in others
abbrev pub Stay : Pairs → Pairs → Type 0
Stay ps qs = (m n : ℕ) → were_met m n ps ≡ true → were_met m n qs ≡ true

pub settled_stay : (ps qs : Pairs) → Stay ps qs → (m n : ℕ) → is_settled m n ps ≡ true → is_settled m n qs ≡ true
settled_stay ps qs h m n e = elim (either (nat_eq m n) (were_met m n ps) e) as (λ _. is_settled m n qs ≡ true) [
  | inl same ↦ left (nat_eq m n) (were_met m n qs) same
  | inr met ↦ right (nat_eq m n) (were_met m n qs) (h m n met)
]

pub met_before : (m n : ℕ) (ps rest : Pairs) → were_met m n ps ≡ true → were_met m n (ps ++ rest) ≡ true
met_before m n [] rest e = absurd cc
met_before m n ((i, j) ∷ ps) rest e = elim (either (nat_eq i m && nat_eq j n) (were_met m n ps) e) as (λ _. ((nat_eq i m && nat_eq j n) || were_met m n (ps ++ rest)) ≡ true) [
  | inl here ↦ left (nat_eq i m && nat_eq j n) (were_met m n (ps ++ rest)) here
  | inr later ↦ right (nat_eq i m && nat_eq j n) (were_met m n (ps ++ rest)) (met_before m n ps rest later)
]

pub met_last : (m n : ℕ) (ps : Pairs) → were_met m n (ps ++ (m, n) ∷ []) ≡ true
met_last m n [] = left (nat_eq m m && nat_eq n n) false (both (nat_eq m m) (nat_eq n n) (eq-eqb m m refl) (eq-eqb n n refl))
met_last m n ((i, j) ∷ ps) = right (nat_eq i m && nat_eq j n) (were_met m n (ps ++ (m, n) ∷ [])) (met_last m n ps)

-- a pair that was met is one of those before, or the last
met_which : (i j m n : ℕ) (ps : Pairs) → were_met i j (ps ++ (m, n) ∷ []) ≡ true → (were_met i j ps ≡ true) ⊎ ((m ≡ i) × (n ≡ j))
met_which i j m n [] e = elim (either (nat_eq m i && nat_eq n j) false e) as (λ _. (false ≡ true) ⊎ ((m ≡ i) × (n ≡ j))) [
  | inl here ↦ let is : (nat_eq m i ≡ true) × (nat_eq n j ≡ true) = parts (nat_eq m i) (nat_eq n j) here in inr (eqb-true m i is.0, eqb-true n j is.1)
  | inr none ↦ inl none
]
met_which i j m n ((k, l) ∷ ps) e = elim (either (nat_eq k i && nat_eq l j) (were_met i j (ps ++ (m, n) ∷ [])) e) as (λ _. (were_met i j ((k, l) ∷ ps) ≡ true) ⊎ ((m ≡ i) × (n ≡ j))) [
  | inl here ↦ inl (left (nat_eq k i && nat_eq l j) (were_met i j ps) here)
  | inr later ↦ further (met_which i j m n ps later)
]
  where
    further : (were_met i j ps ≡ true) ⊎ ((m ≡ i) × (n ≡ j)) → (were_met i j ((k, l) ∷ ps) ≡ true) ⊎ ((m ≡ i) × (n ≡ j))
    further (inl a) = inl (right (nat_eq k i && nat_eq l j) (were_met i j ps) a)
    further (inr b) = inr b

types_stay : (ps qs : Pairs) → Stay ps qs → (t u : PlainType) → are_compatible_by ps t u ≡ true → are_compatible_by qs t u ≡ true
types_stay ps qs h (void c) (void d) e = e
types_stay ps qs h (void c) (integer d j) e = e
types_stay ps qs h (void c) (pointer d u) e = e
types_stay ps qs h (void c) (array d u n) e = e
types_stay ps qs h (void c) (structure d n) e = e
types_stay ps qs h (integer c i) (void d) e = e
types_stay ps qs h (integer c i) (integer d j) e = e
types_stay ps qs h (integer c i) (pointer d u) e = e
types_stay ps qs h (integer c i) (array d u n) e = e
types_stay ps qs h (integer c i) (structure d n) e = e
types_stay ps qs h (pointer c t) (void d) e = e
types_stay ps qs h (pointer c t) (integer d j) e = e
types_stay ps qs h (pointer c t) (pointer d u) e = let is : (beq c d ≡ true) × (are_compatible_by ps t u ≡ true) = parts (beq c d) (are_compatible_by ps t u) e in both (beq c d) (are_compatible_by qs t u) is.0 (types_stay ps qs h t u is.1)
types_stay ps qs h (pointer c t) (array d u n) e = e
types_stay ps qs h (pointer c t) (structure d n) e = e
types_stay ps qs h (array c t m) (void d) e = e
types_stay ps qs h (array c t m) (integer d j) e = e
types_stay ps qs h (array c t m) (pointer d u) e = e
types_stay ps qs h (array c t m) (array d u n) e = let is : (nat_eq m n ≡ true) × (are_compatible_by ps t u ≡ true) = parts (nat_eq m n) (are_compatible_by ps t u) e in both (nat_eq m n) (are_compatible_by qs t u) is.0 (types_stay ps qs h t u is.1)
types_stay ps qs h (array c t m) (structure d n) e = e
types_stay ps qs h (structure c m) (void d) e = e
types_stay ps qs h (structure c m) (integer d j) e = e
types_stay ps qs h (structure c m) (pointer d u) e = e
types_stay ps qs h (structure c m) (array d u n) e = e
types_stay ps qs h (structure c m) (structure d n) e = let is : (beq c d ≡ true) × (is_settled m n ps ≡ true) = parts (beq c d) (is_settled m n ps) e in both (beq c d) (is_settled m n qs) is.0 (settled_stay ps qs h m n is.1)

members_stay : (ps qs : Pairs) → Stay ps qs → (ms ks : List PlainMember) → members_compatible_by ps ms ks ≡ true → members_compatible_by qs ms ks ≡ true
members_stay ps qs h [] [] e = e
members_stay ps qs h [] (k ∷ ks) e = e
members_stay ps qs h (m ∷ ms) [] e = e
members_stay ps qs h (m ∷ ms) (k ∷ ks) e =
    let rest : Bool = are_compatible_by ps m.type k.type && members_compatible_by ps ms ks in
    let is : (bytes_eq m.name k.name ≡ true) × (rest ≡ true) = parts (bytes_eq m.name k.name) rest e in
    let next : (are_compatible_by ps m.type k.type ≡ true) × (members_compatible_by ps ms ks ≡ true) = parts (are_compatible_by ps m.type k.type) (members_compatible_by ps ms ks) is.1 in
    both (bytes_eq m.name k.name) (are_compatible_by qs m.type k.type && members_compatible_by qs ms ks) is.0
    (both (are_compatible_by qs m.type k.type) (members_compatible_by qs ms ks) (types_stay ps qs h m.type k.type next.0) (members_stay ps qs h ms ks next.1))

bodies_stay : (ps qs : Pairs) → Stay ps qs → (a b : Option PlainBody) → bodies_compatible_by ps a b ≡ true → bodies_compatible_by qs a b ≡ true
bodies_stay ps qs h (Some a) (Some b) e = members_stay ps qs h a.members b.members e
bodies_stay ps qs h (Some a) None e = refl
bodies_stay ps qs h None (Some b) e = refl
bodies_stay ps qs h None None e = refl

-- ## What comparing adds

-- two structures are compatible by pairs
abbrev Fits : List PlainStructure → Pairs → ℕ → ℕ → Type 0
Fits ss ps m n = (tagged_alike (slice_get ss m) (slice_get ss n) ≡ true) × (bodies_compatible_by ps (body_of ss m) (body_of ss n) ≡ true)

-- pairs with more of them, each of which is compatible
record Adds (ss : List PlainStructure) (ps qs : Pairs) : Type 0 where
  pub stay : Stay ps qs
  pub fit : (m n : ℕ) → were_met m n qs ≡ true → (were_met m n ps ≡ true) ⊎ Fits ss qs m n

adds_none : (ss : List PlainStructure) (ps : Pairs) → Adds ss ps ps
adds_none ss ps = record { stay = λ m n e. e; fit = λ m n e. inl e }

adds_on : (ss : List PlainStructure) (ps qs rs : Pairs) → Adds ss ps qs → Adds ss qs rs → Adds ss ps rs
adds_on ss ps qs rs a b = record { stay = λ m n e. b.stay m n (a.stay m n e); fit = λ m n e. by_second m n (b.fit m n e) }
  where
    by_first : (m n : ℕ) → (were_met m n ps ≡ true) ⊎ Fits ss qs m n → (were_met m n ps ≡ true) ⊎ Fits ss rs m n
    by_first m n (inl met) = inl met
    by_first m n (inr fits) = inr (fits.0, bodies_stay qs rs b.stay (body_of ss m) (body_of ss n) fits.1)

    by_second : (m n : ℕ) → (were_met m n qs ≡ true) ⊎ Fits ss rs m n → (were_met m n ps ≡ true) ⊎ Fits ss rs m n
    by_second m n (inl met) = by_first m n (a.fit m n met)
    by_second m n (inr fits) = inr fits

-- comparing two structures adds pairs by which they are compatible
abbrev Compares : List PlainStructure → (ℕ → ℕ → Pairs → Option Pairs) → Type 0
Compares ss compare = (m n : ℕ) (ps qs : Pairs) → compare m n ps ≡ Some qs → Adds ss ps qs × (is_settled m n qs ≡ true)

-- and so does comparing two types
abbrev ComparesTypes : List PlainStructure → (PlainType → PlainType → Pairs → Option Pairs) → Type 0
ComparesTypes ss compare = (t u : PlainType) (ps qs : Pairs) → compare t u ps ≡ Some qs → Adds ss ps qs × (are_compatible_by qs t u ≡ true)

same_pairs : (ss : List PlainStructure) (ps qs : Pairs) → Some ps ≡ Some qs → Adds ss ps qs
same_pairs ss ps qs e = subst (Adds ss ps) (some_is ps qs e) (adds_none ss ps)

types_added : (ss : List PlainStructure) (compare : ℕ → ℕ → Pairs → Option Pairs) → Compares ss compare → ComparesTypes ss (types_compatible compare)
types_added ss compare h (void c) (void d) ps qs e =
    let is : (beq c d ≡ true) × (Some ps ≡ Some qs) = some_if (beq c d) (Some ps) qs e in (same_pairs ss ps qs is.1, is.0)
types_added ss compare h (void c) (integer d j) ps qs e = none_is_not qs e
types_added ss compare h (void c) (pointer d u) ps qs e = none_is_not qs e
types_added ss compare h (void c) (array d u n) ps qs e = none_is_not qs e
types_added ss compare h (void c) (structure d n) ps qs e = none_is_not qs e
types_added ss compare h (integer c i) (void d) ps qs e = none_is_not qs e
types_added ss compare h (integer c i) (integer d j) ps qs e =
    let is : (beq c d && same_integer i j ≡ true) × (Some ps ≡ Some qs) = some_if (beq c d && same_integer i j) (Some ps) qs e in (same_pairs ss ps qs is.1, is.0)
types_added ss compare h (integer c i) (pointer d u) ps qs e = none_is_not qs e
types_added ss compare h (integer c i) (array d u n) ps qs e = none_is_not qs e
types_added ss compare h (integer c i) (structure d n) ps qs e = none_is_not qs e
types_added ss compare h (pointer c t) (void d) ps qs e = none_is_not qs e
types_added ss compare h (pointer c t) (integer d j) ps qs e = none_is_not qs e
types_added ss compare h (pointer c t) (pointer d u) ps qs e =
    let is : (beq c d ≡ true) × (types_compatible compare t u ps ≡ Some qs) = some_if (beq c d) (types_compatible compare t u ps) qs e in
    let inner : Adds ss ps qs × (are_compatible_by qs t u ≡ true) = types_added ss compare h t u ps qs is.1 in
    (inner.0, both (beq c d) (are_compatible_by qs t u) is.0 inner.1)
types_added ss compare h (pointer c t) (array d u n) ps qs e = none_is_not qs e
types_added ss compare h (pointer c t) (structure d n) ps qs e = none_is_not qs e
types_added ss compare h (array c t m) (void d) ps qs e = none_is_not qs e
types_added ss compare h (array c t m) (integer d j) ps qs e = none_is_not qs e
types_added ss compare h (array c t m) (pointer d u) ps qs e = none_is_not qs e
types_added ss compare h (array c t m) (array d u n) ps qs e =
    let is : (nat_eq m n ≡ true) × (types_compatible compare t u ps ≡ Some qs) = some_if (nat_eq m n) (types_compatible compare t u ps) qs e in
    let inner : Adds ss ps qs × (are_compatible_by qs t u ≡ true) = types_added ss compare h t u ps qs is.1 in
    (inner.0, both (nat_eq m n) (are_compatible_by qs t u) is.0 inner.1)
types_added ss compare h (array c t m) (structure d n) ps qs e = none_is_not qs e
types_added ss compare h (structure c m) (void d) ps qs e = none_is_not qs e
types_added ss compare h (structure c m) (integer d j) ps qs e = none_is_not qs e
types_added ss compare h (structure c m) (pointer d u) ps qs e = none_is_not qs e
types_added ss compare h (structure c m) (array d u n) ps qs e = none_is_not qs e
types_added ss compare h (structure c m) (structure d n) ps qs e =
    let is : (beq c d ≡ true) × (compare m n ps ≡ Some qs) = some_if (beq c d) (compare m n ps) qs e in
    let inner : Adds ss ps qs × (is_settled m n qs ≡ true) = h m n ps qs is.1 in
    (inner.0, both (beq c d) (is_settled m n qs) is.0 inner.1)

members_added : (ss : List PlainStructure) (compare : PlainType → PlainType → Pairs → Option Pairs) → ComparesTypes ss compare → (ms ks : List PlainMember) (ps qs : Pairs) →
    members_compatible compare ms ks ps ≡ Some qs → Adds ss ps qs × (members_compatible_by qs ms ks ≡ true)
members_added ss compare h [] [] ps qs e = (same_pairs ss ps qs e, refl)
members_added ss compare h [] (k ∷ ks) ps qs e = none_is_not qs e
members_added ss compare h (m ∷ ms) [] ps qs e = none_is_not qs e
members_added ss compare h (m ∷ ms) (k ∷ ks) ps qs e =
    let is : (bytes_eq m.name k.name ≡ true) × (and_then (compare m.type k.type ps) (members_compatible compare ms ks) ≡ Some qs) =
    some_if (bytes_eq m.name k.name) (and_then (compare m.type k.type ps) (members_compatible compare ms ks)) qs e in
    let next : (rs : Pairs) × (compare m.type k.type ps ≡ Some rs) × (members_compatible compare ms ks rs ≡ Some qs) =
    some_then (compare m.type k.type ps) (members_compatible compare ms ks) qs is.1 in
    let rs : Pairs = next.0 in
    let first : Adds ss ps rs × (are_compatible_by rs m.type k.type ≡ true) = h m.type k.type ps rs next.1 in
    let rest : Adds ss rs qs × (members_compatible_by qs ms ks ≡ true) = members_added ss compare h ms ks rs qs next.2 in (
      adds_on ss ps rs qs first.0 rest.0,
      both (bytes_eq m.name k.name) (are_compatible_by qs m.type k.type && members_compatible_by qs ms ks) is.0
          (both (are_compatible_by qs m.type k.type) (members_compatible_by qs ms ks) (types_stay rs qs rest.0.stay m.type k.type first.1) rest.1),
    )

bodies_added : (ss : List PlainStructure) (compare : PlainType → PlainType → Pairs → Option Pairs) → ComparesTypes ss compare → (a b : Option PlainBody) (ps qs : Pairs) →
    bodies_compatible compare a b ps ≡ Some qs → Adds ss ps qs × (bodies_compatible_by qs a b ≡ true)
bodies_added ss compare h (Some a) (Some b) ps qs e = members_added ss compare h a.members b.members ps qs e
bodies_added ss compare h (Some a) None ps qs e = (same_pairs ss ps qs e, refl)
bodies_added ss compare h None (Some b) ps qs e = (same_pairs ss ps qs e, refl)
bodies_added ss compare h None None ps qs e = (same_pairs ss ps qs e, refl)

structures_added : (ss : List PlainStructure) (compare : PlainType → PlainType → Pairs → Option Pairs) → ComparesTypes ss compare → (m n : ℕ) (ps qs : Pairs) →
    structures_compatible compare ss m n ps ≡ Some qs → Adds ss ps qs × (is_settled m n qs ≡ true)
structures_added ss compare h m n ps qs e = (
  record { stay = λ i j met. more.0.stay i j (met_before i j ps ((m, n) ∷ []) met); fit = λ i j met. by_more i j (more.0.fit i j met) },
  right (nat_eq m n) (were_met m n qs) (more.0.stay m n (met_last m n ps)),
)
  where
    go : Option Pairs
    go = bodies_compatible compare (body_of ss m) (body_of ss n) (ps ++ (m, n) ∷ [])

    is : (tagged_alike (slice_get ss m) (slice_get ss n) ≡ true) × (go ≡ Some qs)
    is = some_if (tagged_alike (slice_get ss m) (slice_get ss n)) go qs e

    more : Adds ss (ps ++ (m, n) ∷ []) qs × (bodies_compatible_by qs (body_of ss m) (body_of ss n) ≡ true)
    more = bodies_added ss compare h (body_of ss m) (body_of ss n) (ps ++ (m, n) ∷ []) qs is.1

    by_which : (i j : ℕ) → (were_met i j ps ≡ true) ⊎ ((m ≡ i) × (n ≡ j)) → (were_met i j ps ≡ true) ⊎ Fits ss qs i j
    by_which i j (inl met) = inl met
    by_which i j (inr same) = inr (subst (λ x. Fits ss qs x j) same.0 (subst (λ y. Fits ss qs m y) same.1 (is.0, more.1)))

    by_more : (i j : ℕ) → (were_met i j (ps ++ (m, n) ∷ []) ≡ true) ⊎ Fits ss qs i j → (were_met i j ps ≡ true) ⊎ Fits ss qs i j
    by_more i j (inl met) = by_which i j (met_which i j m n ps met)
    by_more i j (inr fits) = inr fits

settled_or : (ss : List PlainStructure) (m n : ℕ) (ps qs : Pairs) (b : Bool) (o : Option Pairs) → is_settled m n ps ≡ b → (o ≡ Some qs → Adds ss ps qs × (is_settled m n qs ≡ true)) →
    (if b then Some ps else o) ≡ Some qs → Adds ss ps qs × (is_settled m n qs ≡ true)
settled_or ss m n ps qs true o is h e = let a : Adds ss ps qs = same_pairs ss ps qs e in (a, settled_stay ps qs a.stay m n is)
settled_or ss m n ps qs false o is h e = h e

within_added : (more : ℕ) (ss : List PlainStructure) → Compares ss (compatible_within more ss)
within_added zero ss m n ps qs e = settled_or ss m n ps qs (is_settled m n ps) None refl (λ none. none_is_not qs none) e
within_added (suc more) ss m n ps qs e =
    settled_or ss m n ps qs (is_settled m n ps) (structures_compatible (types_compatible (compatible_within more ss)) ss m n ps) refl
    (structures_added ss (types_compatible (compatible_within more ss)) (types_added ss (compatible_within more ss) (within_added more ss)) m n ps qs) e

-- ## All

pub compared_types_are_compatible : ComparedTypesAreCompatible
compared_types_are_compatible ss t u ps e =
    let found : Adds ss [] ps × (are_compatible_by ps t u ≡ true) =
    types_added ss (compatible_within (length ss * length ss) ss) (within_added (length ss * length ss) ss) t u [] ps e in
    (λ m n met. by_none m n (found.0.fit m n met), found.1)
  where
    by_none : (m n : ℕ) → (false ≡ true) ⊎ Fits ss ps m n → Fits ss ps m n
    by_none m n (inl none) = absurd cc
    by_none m n (inr fits) = fits
