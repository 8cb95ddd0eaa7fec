-- Numbers that stand in parts of a list: where another one comes to stand for one, only its part changes.
use Rattle.std.proofs.Common.{◌≡◌, ℕ, zero, suc, ◌+◌, ◌≤◌, ◌<◌, nat_eq, nat_le, Bool, true, false, ◌&&◌, if◌then◌else◌, List, [], ◌∷◌, map, length, Option, Some, None, option_map, slice_get, slice_index_or, slice_set, refl, sym, ◌∙◌, ap, subst, arith, ◌⊎◌, inl, inr}
use Rattle.std.specs.Option.{unwrap_or}
use Rattle.std.proofs.lemmas.Bool.Decides.{eqb_tells, leb_tells}
use Rattle.std.proofs.lemmas.List.{length-map}
use Rattle.std.proofs.lemmas.Option.{slice_get-get_or, slice_get-map, slice_get_past, slice_get_within}
use Rattle.p10_linkage.specs.declared.reaches.Reach.{Reach}
use Rattle.p10_linkage.specs.private.Meetings.{swapped}
use Rattle.p10_linkage.specs.private.Reaching.{everywhere, IsWithin, part_of, AreReached, hull, swapped_at}
use Rattle.p10_linkage.proofs.OneType.{none_is_not, some_is}

le_true : (a b : ℕ) → a ≤ b → nat_le a b ≡ true
le_true a b h = elim (leb_tells a b) as (λ _. nat_le a b ≡ true) [
  | inl (e, is) ↦ e
  | inr (e, other) ↦ absurd (omega (arith, h, other))
]

le_false : (a b : ℕ) → b < a → nat_le a b ≡ false
le_false a b h = elim (leb_tells a b) as (λ _. nat_le a b ≡ false) [
  | inl (e, is) ↦ absurd (omega (arith, h, is))
  | inr (e, other) ↦ e
]

eq_false : (a b : ℕ) → (a ≡ b → ⊥) → nat_eq a b ≡ false
eq_false a b h = elim (eqb_tells a b) as (λ _. nat_eq a b ≡ false) [
  | inl (e, is) ↦ absurd (h is)
  | inr (e, other) ↦ e
]

if_false : {A : Type 0} (b : Bool) (x y : A) → b ≡ false → (if b then x else y) ≡ y
if_false true x y e = absurd cc
if_false false x y e = refl

if_true : {A : Type 0} (b : Bool) (x y : A) → b ≡ true → (if b then x else y) ≡ x
if_true true x y e = refl
if_true false x y e = absurd cc

-- ## Numbers are swapped at one place after the other

-- the number at a place of a list, where those between two places are swapped
abbrev pub swapped_between : ℕ → ℕ → ℕ → ℕ → ℕ → ℕ → ℕ
swapped_between first stop old new place n = if nat_le first place && nat_le (place + 1) stop then swapped old new n else n

-- numbers of which those between two places are swapped; the first of them stands at a place
abbrev pub swapped_on : ℕ → ℕ → ℕ → ℕ → ℕ → List ℕ → List ℕ
swapped_on first stop old new place [] = []
swapped_on first stop old new place (n ∷ numbers) = swapped_between first stop old new place n ∷ swapped_on first stop old new (place + 1) numbers

inside : (first stop old new place n : ℕ) → first ≤ place → place < stop → swapped_between first stop old new place n ≡ swapped old new n
inside first stop old new place n h g = if_true (nat_le first place && nat_le (place + 1) stop) (swapped old new n) n
    (λ i. le_true first place h i && le_true (place + 1) stop (omega (arith, g)) i)

beyond : (first stop old new place n : ℕ) → stop ≤ place → swapped_between first stop old new place n ≡ n
beyond first stop old new place n h = if_false (nat_le first place && nat_le (place + 1) stop) (swapped old new n) n
    (ap (λ b. nat_le first place && b) (le_false (place + 1) stop (omega (arith, h))) ∙ neither (nat_le first place))
  where
    neither : (b : Bool) → (b && false) ≡ false
    neither true = refl
    neither false = refl

none_beyond : (first stop old new place : ℕ) (numbers : List ℕ) → stop ≤ place → swapped_on first stop old new place numbers ≡ numbers
none_beyond first stop old new place [] h = refl
none_beyond first stop old new place (n ∷ numbers) h = λ i. beyond first stop old new place n h i ∷ none_beyond first stop old new (place + 1) numbers (omega (arith, h)) i

-- none is swapped before the first place
pub none_on : (first old new : ℕ) (numbers : List ℕ) → numbers ≡ swapped_on first first old new 0 numbers
none_on first old new numbers = sym (apart 0 numbers)
  where
    at_one : (place n : ℕ) → swapped_between first first old new place n ≡ n
    at_one place n = elim (leb_tells first place) as (λ _. swapped_between first first old new place n ≡ n) [
      | inl (e, is) ↦ beyond first first old new place n is
      | inr (e, other) ↦ if_false (nat_le first place && nat_le (place + 1) first) (swapped old new n) n (ap (λ b. b && nat_le (place + 1) first) e)
    ]

    apart : (place : ℕ) (numbers : List ℕ) → swapped_on first first old new place numbers ≡ numbers
    apart place [] = refl
    apart place (n ∷ numbers) = λ i. at_one place n i ∷ apart (place + 1) numbers i

one_more : (first k old new place : ℕ) (numbers : List ℕ) → first ≤ place + k → swapped_at old new k (swapped_on first (place + k) old new place numbers) ≡ swapped_on first (place + k + 1) old new place numbers
one_more first zero old new place [] h = refl
one_more first (suc k) old new place [] h = refl
one_more first zero old new place (n ∷ numbers) h =
    λ i. (ap (swapped old new) (beyond first (place + 0) old new place n (omega arith)) ∙ sym (inside first (place + 0 + 1) old new place n (omega (arith, h)) (omega arith))) i
    ∷ (none_beyond first (place + 0) old new (place + 1) numbers (omega arith) ∙ sym (none_beyond first (place + 0 + 1) old new (place + 1) numbers (omega arith))) i
one_more first (suc k) old new place (n ∷ numbers) h =
    let here : place + suc k ≡ place + 1 + k = omega arith in
    let head : swapped_between first (place + suc k) old new place n ≡ swapped_between first (place + suc k + 1) old new place n =
    ap (λ b. if nat_le first place && b then swapped old new n else n) (le_true (place + 1) (place + suc k) (omega arith) ∙ sym (le_true (place + 1) (place + suc k + 1) (omega arith))) in
    λ i. head i
    ∷ (ap (λ stop. swapped_at old new k (swapped_on first stop old new (place + 1) numbers)) here
    ∙ one_more first k old new (place + 1) numbers (omega (arith, h))
    ∙ ap (λ stop. swapped_on first (stop + 1) old new (place + 1) numbers) (sym here)) i

-- one place more is swapped
pub swapped_turn : (first k old new : ℕ) (numbers all : List ℕ) → first ≤ k → numbers ≡ swapped_on first k old new 0 all → swapped_at old new k numbers ≡ swapped_on first (k + 1) old new 0 all
swapped_turn first k old new numbers all h e =
    let here : 0 + k ≡ k = omega arith in
    ap (swapped_at old new k) e
    ∙ ap (λ stop. swapped_at old new k (swapped_on first stop old new 0 all)) (sym here)
    ∙ one_more first k old new 0 all (omega (arith, h))
    ∙ ap (λ stop. swapped_on first (stop + 1) old new 0 all) here

all_from : (first stop old new place : ℕ) (numbers : List ℕ) → ((p : ℕ) → slice_get numbers p ≡ Some old → (first ≤ place + p) × (place + p < stop)) → swapped_on first stop old new place numbers ≡ map (swapped old new) numbers
all_from first stop old new place [] h = refl
all_from first stop old new place (n ∷ numbers) h = λ i. head (eqb_tells n old) i ∷ all_from first stop old new (place + 1) numbers (λ p e. let w = h (suc p) e in (omega (arith, w.0), omega (arith, w.1))) i
  where
    either : (b : Bool) (x : ℕ) → x ≡ n → (if b then x else n) ≡ x
    either true x e = refl
    either false x e = sym e

    head : ((nat_eq n old ≡ true) × (n ≡ old)) ⊎ ((nat_eq n old ≡ false) × (n ≡ old → ⊥)) → swapped_between first stop old new place n ≡ swapped old new n
    head (inl (e, is)) = let w = h 0 (ap Some is) in inside first stop old new place n (omega (arith, w.0)) (omega (arith, w.1))
    head (inr (e, other)) = either (nat_le first place && nat_le (place + 1) stop) (swapped old new n) (ap (λ b. if b then new else n) e)

-- all are swapped where the old one stands between the places alone
pub swapped_end : (first past k old new : ℕ) (numbers all : List ℕ) → past ≤ k → numbers ≡ swapped_on first k old new 0 all → ((p : ℕ) → slice_get all p ≡ Some old → (first ≤ p) × (p < past)) → numbers ≡ map (swapped old new) all
swapped_end first past k old new numbers all h e within = e ∙ all_from first k old new 0 all (λ p is. let w = within p is in (omega (arith, w.0), omega (arith, w.1, h)))

-- ## One place

pub set_one : (old new k : ℕ) (numbers : List ℕ) → k < length numbers → slice_set numbers k (swapped old new (slice_index_or numbers k 0)) ≡ swapped_at old new k numbers
set_one old new k [] h = absurd (omega (arith, h))
set_one old new zero (n ∷ numbers) h = refl
set_one old new (suc k) (n ∷ numbers) h = ap (λ rest. n ∷ rest) (set_one old new k numbers (omega (arith, h)))

pub none_there : (old new k : ℕ) (numbers : List ℕ) → length numbers ≤ k → numbers ≡ swapped_at old new k numbers
none_there old new zero [] h = refl
none_there old new (suc k) [] h = refl
none_there old new zero (n ∷ numbers) h = absurd (omega (arith, h))
none_there old new (suc k) (n ∷ numbers) h = ap (λ rest. n ∷ rest) (none_there old new k numbers (omega (arith, h)))

-- ## Parts

-- one part becomes wider
pub widened : (reaches : List Reach) (k : ℕ) (d part : Reach) → k < length reaches → (n : ℕ) →
    slice_get (slice_set reaches k (hull part (slice_index_or reaches k d))) n ≡ (if nat_eq n k then option_map (hull part) (slice_get reaches n) else slice_get reaches n)
widened reaches k d part h n = by_test (eqb_tells n k)
  where
    value : Reach
    value = hull part (slice_index_or reaches k d)

    set_here : (rs : List Reach) (k : ℕ) (v : Reach) → k < length rs → slice_get (slice_set rs k v) k ≡ Some v
    set_here [] k v h = absurd (omega (arith, h))
    set_here (r ∷ rs) zero v h = refl
    set_here (r ∷ rs) (suc k) v h = set_here rs k v (omega (arith, h))

    set_there : (rs : List Reach) (k n : ℕ) (v : Reach) → (n ≡ k → ⊥) → slice_get (slice_set rs k v) n ≡ slice_get rs n
    set_there [] k n v other = refl
    set_there (r ∷ rs) zero zero v other = absurd (other refl)
    set_there (r ∷ rs) zero (suc n) v other = refl
    set_there (r ∷ rs) (suc k) zero v other = refl
    set_there (r ∷ rs) (suc k) (suc n) v other = set_there rs k n v (λ e. other (ap suc e))

    by_test : ((nat_eq n k ≡ true) × (n ≡ k)) ⊎ ((nat_eq n k ≡ false) × (n ≡ k → ⊥)) → slice_get (slice_set reaches k value) n ≡ (if nat_eq n k then option_map (hull part) (slice_get reaches n) else slice_get reaches n)
    by_test (inl (e, is)) =
        ap (slice_get (slice_set reaches k value)) is
        ∙ set_here reaches k value h
        ∙ ap (option_map (hull part)) (sym (slice_get-get_or reaches k d h) ∙ ap (slice_get reaches) (sym is))
        ∙ sym (if_true (nat_eq n k) (option_map (hull part) (slice_get reaches n)) (slice_get reaches n) e)
    by_test (inr (e, other)) =
        set_there reaches k n value other
        ∙ sym (if_false (nat_eq n k) (option_map (hull part) (slice_get reaches n)) (slice_get reaches n) e)

-- none does that isn't there
pub not_widened : (reaches : List Reach) (k : ℕ) (part : Reach) → length reaches ≤ k → (n : ℕ) → slice_get reaches n ≡ (if nat_eq n k then option_map (hull part) (slice_get reaches n) else slice_get reaches n)
not_widened reaches k part h n = elim (eqb_tells n k) as (λ _. slice_get reaches n ≡ (if nat_eq n k then option_map (hull part) (slice_get reaches n) else slice_get reaches n)) [
  | inl (e, is) ↦ let none : slice_get reaches n ≡ None = slice_get_past reaches n (omega (arith, h, is)) in
      none ∙ sym (ap (option_map (hull part)) none) ∙ sym (if_true (nat_eq n k) (option_map (hull part) (slice_get reaches n)) (slice_get reaches n) e)
  | inr (e, other) ↦ sym (if_false (nat_eq n k) (option_map (hull part) (slice_get reaches n)) (slice_get reaches n) e)
]

hull_first : (a b : Reach) (p : ℕ) → IsWithin a p → IsWithin (hull a b) p
hull_first a b p w = (low (leb_tells a.first b.first), high (leb_tells b.past a.past))
  where
    low : ((nat_le a.first b.first ≡ true) × (a.first ≤ b.first)) ⊎ ((nat_le a.first b.first ≡ false) × (b.first < a.first)) → (hull a b).first ≤ p
    low (inl (e, h)) = subst (λ t. (if t then a.first else b.first) ≤ p) (sym e) w.0
    low (inr (e, h)) = subst (λ t. (if t then a.first else b.first) ≤ p) (sym e) (omega (arith, h, w.0))

    high : ((nat_le b.past a.past ≡ true) × (b.past ≤ a.past)) ⊎ ((nat_le b.past a.past ≡ false) × (a.past < b.past)) → p < (hull a b).past
    high (inl (e, h)) = subst (λ t. p < (if t then a.past else b.past)) (sym e) w.1
    high (inr (e, h)) = subst (λ t. p < (if t then a.past else b.past)) (sym e) (omega (arith, h, w.1))

hull_second : (a b : Reach) (p : ℕ) → IsWithin b p → IsWithin (hull a b) p
hull_second a b p w = (low (leb_tells a.first b.first), high (leb_tells b.past a.past))
  where
    low : ((nat_le a.first b.first ≡ true) × (a.first ≤ b.first)) ⊎ ((nat_le a.first b.first ≡ false) × (b.first < a.first)) → (hull a b).first ≤ p
    low (inl (e, h)) = subst (λ t. (if t then a.first else b.first) ≤ p) (sym e) (omega (arith, h, w.0))
    low (inr (e, h)) = subst (λ t. (if t then a.first else b.first) ≤ p) (sym e) w.0

    high : ((nat_le b.past a.past ≡ true) × (b.past ≤ a.past)) ⊎ ((nat_le b.past a.past ≡ false) × (a.past < b.past)) → p < (hull a b).past
    high (inl (e, h)) = subst (λ t. p < (if t then a.past else b.past)) (sym e) (omega (arith, h, w.1))
    high (inr (e, h)) = subst (λ t. p < (if t then a.past else b.past)) (sym e) w.1

-- a part that may have become wider has what lay in it, and what lies in that by which it became wider
wider_has : (o : Option Reach) (part : Reach) (count p : ℕ) → p < count → IsWithin part p → IsWithin (unwrap_or (option_map (hull part) o) (everywhere count)) p
wider_has None part count p low w = (omega arith, low)
wider_has (Some r) part count p low w = hull_first part r p w

wider_keeps : (o : Option Reach) (part : Reach) (count p : ℕ) → IsWithin (unwrap_or o (everywhere count)) p → IsWithin (unwrap_or (option_map (hull part) o) (everywhere count)) p
wider_keeps None part count p w = w
wider_keeps (Some r) part count p w = hull_second part r p w

-- the parts where one number's became wider
abbrev pub AreWidened : List Reach → ℕ → Reach → List Reach → Type 0
AreWidened reaches number part wider = (n : ℕ) → slice_get wider n ≡ (if nat_eq n number then option_map (hull part) (slice_get reaches n) else slice_get reaches n)

widened_part : (reaches wider : List Reach) (number count n : ℕ) (part : Reach) → AreWidened reaches number part wider → n ≡ number → part_of wider n count ≡ unwrap_or (option_map (hull part) (slice_get reaches n)) (everywhere count)
widened_part reaches wider number count n part h is =
    ap (λ o. unwrap_or o (everywhere count))
    (h n ∙ if_true (nat_eq n number) (option_map (hull part) (slice_get reaches n)) (slice_get reaches n) (same (eqb_tells n number)))
  where
    same : ((nat_eq n number ≡ true) × (n ≡ number)) ⊎ ((nat_eq n number ≡ false) × (n ≡ number → ⊥)) → nat_eq n number ≡ true
    same (inl (e, is2)) = e
    same (inr (e, other)) = absurd (other is)

-- a place at which a number stands lies in its part when the part of one became wider
pub still_within : (reaches wider : List Reach) (number count n p : ℕ) (part : Reach) → AreWidened reaches number part wider → IsWithin (part_of reaches n count) p → IsWithin (part_of wider n count) p
still_within reaches wider number count n p part h w = by_test (eqb_tells n number)
  where
    by_test : ((nat_eq n number ≡ true) × (n ≡ number)) ⊎ ((nat_eq n number ≡ false) × (n ≡ number → ⊥)) → IsWithin (part_of wider n count) p
    by_test (inl (e, is)) = subst (λ part. IsWithin part p) (sym (widened_part reaches wider number count n part h is)) (wider_keeps (slice_get reaches n) part count p w)
    by_test (inr (e, other)) =
        subst (λ o. IsWithin (unwrap_or o (everywhere count)) p) (sym (h n ∙ if_false (nat_eq n number) (option_map (hull part) (slice_get reaches n)) (slice_get reaches n) e)) w

-- and so does a place of the part by which it became wider
pub now_within : (reaches wider : List Reach) (number count p : ℕ) (part : Reach) → AreWidened reaches number part wider → p < count → IsWithin part p → IsWithin (part_of wider number count) p
now_within reaches wider number count p part h low w =
    subst (λ part. IsWithin part p) (sym (widened_part reaches wider number count number part h refl)) (wider_has (slice_get reaches number) part count p low w)

some_mapped_is : (f : ℕ → ℕ) (o : Option ℕ) (n : ℕ) → option_map f o ≡ Some n → (m : ℕ) × (o ≡ Some m) × (f m ≡ n)
some_mapped_is f None n e = none_is_not n e
some_mapped_is f (Some m) n e = (m, refl, some_is (f m) n e)

-- each number stands in its part alone after another one came to stand for one, whose part that of the other one has now
pub reached_on : (numbers after : List ℕ) (reaches wider : List Reach) (old new : ℕ) (part : Reach) → AreReached numbers reaches → part ≡ part_of reaches old (length numbers) → AreWidened reaches new part wider →
    after ≡ map (swapped old new) numbers → AreReached after wider
reached_on numbers after reaches wider old new part h is wide e place number there =
    subst (λ count. IsWithin (part_of wider number count) place) (sym long) (at_one (eqb_tells before old))
  where
    long : length after ≡ length numbers
    long = ap length e ∙ length-map numbers (swapped old new)

    found : (m : ℕ) × (slice_get numbers place ≡ Some m) × (swapped old new m ≡ number)
    found = some_mapped_is (swapped old new) (slice_get numbers place) number (sym (slice_get-map (swapped old new) numbers place) ∙ ap (λ ns. slice_get ns place) (sym e) ∙ there)

    before : ℕ
    before = found.0

    stood : IsWithin (part_of reaches before (length numbers)) place
    stood = h place before found.1

    at_one : ((nat_eq before old ≡ true) × (before ≡ old)) ⊎ ((nat_eq before old ≡ false) × (before ≡ old → ⊥)) → IsWithin (part_of wider number (length numbers)) place
    at_one (inl (t, same)) =
        subst (λ n. IsWithin (part_of wider n (length numbers)) place) (sym (ap (λ b. if b then new else before) t) ∙ found.2)
        (now_within reaches wider new (length numbers) place part wide (slice_get_within numbers place before found.1)
        (subst (λ part. IsWithin part place) (ap (λ n. part_of reaches n (length numbers)) same ∙ sym is) stood))
    at_one (inr (t, other)) =
        subst (λ n. IsWithin (part_of wider n (length numbers)) place) (sym (ap (λ b. if b then new else before) t) ∙ found.2)
        (still_within reaches wider new (length numbers) before place part wide stood)

-- one more number of the list is in its part
pub reached_turn : (numbers : List ℕ) (reaches wider : List Reach) (k : ℕ) → k < length numbers → ((p n : ℕ) → p < k → slice_get numbers p ≡ Some n → IsWithin (part_of reaches n (length numbers)) p) →
    AreWidened reaches (slice_index_or numbers k 0) (record { first = k; past = k + 1 }) wider → (p n : ℕ) → p < k + 1 → slice_get numbers p ≡ Some n → IsWithin (part_of wider n (length numbers)) p
reached_turn numbers reaches wider k low h wide p n before there = at_one (leb_tells k p)
  where
    part : Reach
    part = record { first = k; past = k + 1 }

    here : ℕ
    here = slice_index_or numbers k 0

    at_one : ((nat_le k p ≡ true) × (k ≤ p)) ⊎ ((nat_le k p ≡ false) × (p < k)) → IsWithin (part_of wider n (length numbers)) p
    at_one (inl (e, last)) =
        let same : p ≡ k = omega (arith, before, last) in
        let is : here ≡ n = some_is here n (sym (slice_get-get_or numbers k 0 low) ∙ ap (slice_get numbers) (sym same) ∙ there) in
        subst (λ m. IsWithin (part_of wider m (length numbers)) p) is
        (now_within reaches wider here (length numbers) p part wide (omega (arith, low, same)) (omega (arith, same), omega (arith, same)))
    at_one (inr (e, less)) = still_within reaches wider here (length numbers) n p part wide (h p n less there)
