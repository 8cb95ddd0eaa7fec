-- Scalars of types by their places.
use Rattle.std.specs.Prelude.{◌≡◌, ℕ, zero, suc, ◌+◌, ◌-◌, ◌/◌, ◌%◌, ◌<◌, ◌≤◌, nat_lt, Bool, true, false, List, [], ◌∷◌, ◌++◌, Option, Some, None, All, IfSome, length, map, slice_get, refl}
use Rattle.std.proofs.Common.{ap, sym, ◌∙◌, get_or, drop, drop-cons, add-one, subst, arith, ◌⊎◌, inl, inr}
use Rattle.std.proofs.lemmas.List.{length-map, get_or-map}
use Rattle.std.proofs.lemmas.Bool.{ltb-true, ltb-false}
use Rattle.std.proofs.Math.Nat.{div-eq-sub-div, mod-eq-sub-mod, mod-eq_of_lt}
use Rattle.p10_core.specs.declared.structures.Member.{Member}
use Rattle.p10_core.specs.Types.{PlainType, void, integer, pointer, array, structure, bare, plain_type, plain_member, PlainMember, PlainBody, PlainStructure, body_of}
use Rattle.p10_core.specs.Sizes.{Layout, layout_of, scalars_of, scalars_of_members, repeated}
use Rattle.p10_core.specs.Rows.{is_scalar}
use Rattle.p10_core.specs.WholePrograms.{AreWholeStructures, IsWholeBody, IsObjectType}
use Rattle.p10_core.proofs.Layouts.{structure_lies}
use Rattle.p10_whole.specs.private.Scalars.{SameScalar, HasMember, HasScalar}

-- ## Lists by places

at_left : {A : Type 0} (xs ys : List A) (k : ℕ) → k < length xs → slice_get (xs ++ ys) k ≡ slice_get xs k
at_left [] ys k h = absurd (omega arith)
at_left (x ∷ xs) ys zero h = refl
at_left (x ∷ xs) ys (suc k) h = at_left xs ys k (omega arith)

at_right : {A : Type 0} (xs ys : List A) (j k : ℕ) → j ≡ length xs + k → slice_get (xs ++ ys) j ≡ slice_get ys k
at_right [] ys j k e = ap (slice_get ys) (omega (arith, e))
at_right (x ∷ xs) ys zero k e = absurd (omega (arith, e))
at_right (x ∷ xs) ys (suc j) k e = at_right xs ys j k (omega (arith, e))

pub order_by : (k n : ℕ) (b : Bool) → nat_lt k n ≡ b → (k < n) ⊎ (n ≤ k)
order_by k n true e = inl (ltb-true k n e)
order_by k n false e = inr (ltb-false k n e)

repeated_step : {A : Type 0} (n : ℕ) (xs : List A) (k : ℕ) → 1 ≤ length xs → k / length xs < suc n → ((j : ℕ) → j / length xs < n → slice_get (repeated n xs) j ≡ slice_get xs (j % length xs)) →
    (k < length xs) ⊎ (length xs ≤ k) → slice_get (xs ++ repeated n xs) k ≡ slice_get xs (k % length xs)
repeated_step n xs k some below rest (inl low) = at_left xs (repeated n xs) k low ∙ ap (slice_get xs) (sym (mod-eq_of_lt low))
repeated_step n xs k some below rest (inr high) =
    let d : k / length xs ≡ (k - length xs) / length xs + 1 = div-eq-sub-div (omega (arith, some)) high in
    at_right xs (repeated n xs) k (k - length xs) (omega (arith, high)) ∙ rest (k - length xs) (omega (arith, d, below)) ∙ ap (slice_get xs) (sym (mod-eq-sub-mod high))

repeated_at : {A : Type 0} (n : ℕ) (xs : List A) (k : ℕ) → 1 ≤ length xs → k / length xs < n → slice_get (repeated n xs) k ≡ slice_get xs (k % length xs)
repeated_at zero xs k some below = absurd (omega (arith, below))
repeated_at (suc n) xs k some below = repeated_step n xs k some below (λ j h. repeated_at n xs j some h) (order_by k (length xs) (nat_lt k (length xs)) refl)

-- ## Arrays

pub array_place : (ss : List PlainStructure) (t : PlainType) (c : Bool) (n k e : ℕ) → e ≡ length (scalars_of ss t) → (e ≡ 0 → ⊥) → k / e < n → SameScalar ss (array c t n) k t (k % e)
unfolding layout_of
array_place ss t c n k e is some below =
    let P : ℕ → Type 0 = λ m. (m ≡ 0 → ⊥) → k / m < n → SameScalar ss (array c t n) k t (k % m) in
    subst P (sym is) (λ a b. record { same = repeated_at n (scalars_of ss t) k (omega (arith, a)) b }) some below

pub same_on : (ss : List PlainStructure) (s t u : PlainType) (i j k : ℕ) → SameScalar ss s i t j → SameScalar ss t j u k → SameScalar ss s i u k
same_on ss s t u i j k h g = record { same = h.same ∙ g.same }

pub same_itself : (ss : List PlainStructure) (t : PlainType) (i : ℕ) → SameScalar ss t i t i
same_itself ss t i = record { same = refl }

pub scalar_on : (ss : List PlainStructure) (s t u : PlainType) (i j : ℕ) → SameScalar ss s i t j → HasScalar ss t j u → HasScalar ss s i u
scalar_on ss s t u i j h g = record { is = h.same ∙ g.is }

-- ## Scalars and structures

pub scalar_itself : (ss : List PlainStructure) (t : PlainType) (i : ℕ) → i ≡ 0 → is_scalar t ≡ true → HasScalar ss t i t
unfolding layout_of
scalar_itself ss (void c) i e h = absurd cc
scalar_itself ss (integer c k) i e h = record { is = ap (slice_get (integer false k ∷ [])) e }
scalar_itself ss (pointer c t) i e h = record { is = ap (slice_get (pointer false (bare ss t) ∷ [])) e }
scalar_itself ss (array c t n) i e h = absurd cc
scalar_itself ss (structure c n) i e h = absurd cc

-- a structure's own mark doesn't count
pub structure_marked : (ss : List PlainStructure) (c : Bool) (n : ℕ) → scalars_of ss (structure c n) ≡ scalars_of ss (structure false n)
unfolding layout_of
structure_marked ss c n = refl

pub structure_place : (ss : List PlainStructure) → AreWholeStructures ss → (n : ℕ) (b : PlainBody) (i j : ℕ) (t : PlainType) → Some b ≡ body_of ss n → HasMember ss b.members i t j → SameScalar ss (structure false n) i t j
structure_place ss w n b i j t e h = record { same = ap (λ (l : Layout). slice_get l.scalars i) (structure_lies ss w false n b (sym e)) ∙ h.same }

-- ## Members

pub member_object : (ss : List PlainStructure) (ms : List Member) (i : ℕ) (m : Member) → i < length ms → m ≡ get_or ms i m → All (λ (m : PlainMember). IsObjectType ss m.type) (map plain_member ms) → IsObjectType ss (plain_type m.ty)
member_object ss ms i m below is h =
    let P : PlainMember → Type 0 = λ m. IsObjectType ss m.type in
    subst P (get_or-map plain_member ms i m (plain_member m) below ∙ ap plain_member (sym is)) (h i (plain_member m) (omega (arith, below, length-map ms plain_member)))

-- the members of a body
pub body_objects : (ss : List PlainStructure) → AreWholeStructures ss → (n : ℕ) (b : PlainBody) → Some b ≡ body_of ss n → All (λ (m : PlainMember). IsObjectType ss m.type) b.members
body_objects ss w n b e = let whole : IsWholeBody ss n b = w.bodies n b (sym e) in λ k d below. (whole.members k d below).object

-- one member, and those after it
pub member_here : (ss : List PlainStructure) (ms : List Member) (i : ℕ) (m : Member) (place : ℕ) → i < length ms → m ≡ get_or ms i m → place < length (scalars_of ss (plain_type m.ty)) →
    slice_get (scalars_of_members (layout_of ss) (map plain_member (drop i ms))) place ≡ slice_get (scalars_of ss (plain_type m.ty)) place
member_here ss ms i m place below is h =
    ap (λ ns. slice_get (scalars_of_members (layout_of ss) (map plain_member ns)) place) (drop-cons ms i m below ∙ ap (λ x. x ∷ drop (suc i) ms) (sym is))
    ∙ at_left (scalars_of ss (plain_type m.ty)) (scalars_of_members (layout_of ss) (map plain_member (drop (suc i) ms))) place h

pub member_past : (ss : List PlainStructure) (ms : List Member) (i : ℕ) (m : Member) (place : ℕ) → i < length ms → m ≡ get_or ms i m → length (scalars_of ss (plain_type m.ty)) ≤ place →
    slice_get (scalars_of_members (layout_of ss) (map plain_member (drop i ms))) place
    ≡ slice_get (scalars_of_members (layout_of ss) (map plain_member (drop (i + 1) ms))) (place - length (scalars_of ss (plain_type m.ty)))
member_past ss ms i m place below is h =
    ap (λ ns. slice_get (scalars_of_members (layout_of ss) (map plain_member ns)) place) (drop-cons ms i m below ∙ ap (λ x. x ∷ drop (suc i) ms) (sym is))
    ∙ at_right (scalars_of ss (plain_type m.ty)) (scalars_of_members (layout_of ss) (map plain_member (drop (suc i) ms))) place (place - length (scalars_of ss (plain_type m.ty))) (omega (arith, h))
    ∙ ap (λ n. slice_get (scalars_of_members (layout_of ss) (map plain_member (drop n ms))) (place - length (scalars_of ss (plain_type m.ty)))) (sym (add-one i))

-- ## Parts that may be lacking

pub if_some_on : {A : Type 0} (P Q : A → Type 0) → ((x : A) → P x → Q x) → (o : Option A) → IfSome o P → IfSome o Q
if_some_on P Q f None h = tt
if_some_on P Q f (Some x) h = f x h

pub array_part : (ss : List PlainStructure) (whole t : PlainType) (c : Bool) (n k e : ℕ) → whole ≡ array c t n → e ≡ length (scalars_of ss t) → (e ≡ 0 → ⊥) → k / e < n → SameScalar ss whole k t (k % e)
array_part ss whole t c n k e is count some below = let P : PlainType → Type 0 = λ w. SameScalar ss w k t (k % e) in subst P (sym is) (array_place ss t c n k e count some below)

pub structure_scalar : (ss : List PlainStructure) (t u : PlainType) (c : Bool) (n i : ℕ) → t ≡ structure c n → HasScalar ss (structure false n) i u → HasScalar ss t i u
structure_scalar ss t u c n i is h = record { is = ap (λ w. slice_get (scalars_of ss w) i) is ∙ ap (λ s. slice_get s i) (structure_marked ss c n) ∙ h.is }

pub structure_same : (ss : List PlainStructure) (s t : PlainType) (c : Bool) (n i j : ℕ) → t ≡ structure c n → SameScalar ss s i t j → SameScalar ss s i (structure false n) j
structure_same ss s t c n i j is h = record { same = h.same ∙ ap (λ w. slice_get (scalars_of ss w) j) is ∙ ap (λ s. slice_get s j) (structure_marked ss c n) }
