-- Lists of entries that are read and written by numbers.
use Rattle.std.proofs.Common.{◌≡◌, ℕ, zero, suc, ◌<◌, List, [], ◌∷◌, length, map, Some, None, refl, ap, sym, arith}
use Rattle.std.specs.Prelude.{slice_get, slice_set, ◌⊎◌}
use Rattle.std.specs.Option.{option_map}
use Rattle.std.proofs.lemmas.Option.{slice_get-map}
use Rattle.std.proofs.Common.{inl, inr}

pub get_below : {A : Type 0} (xs : List A) (i : ℕ) (x : A) → slice_get xs i ≡ Some x → i < length xs
get_below [] i x e = absurd cc
get_below (z ∷ xs) zero x e = omega arith
get_below (z ∷ xs) (suc i) x e = let h : i < length xs = get_below xs i x e in omega arith

pub get_set : {A : Type 0} (xs : List A) (n : ℕ) (x : A) → n < length xs → slice_get (slice_set xs n x) n ≡ Some x
get_set [] n x h = absurd (omega (arith, h))
get_set (y ∷ xs) zero x h = refl
get_set (y ∷ xs) (suc n) x h = get_set xs n x (omega (arith, h))

pub get_other : {A : Type 0} (xs : List A) (n m : ℕ) (x : A) → (m ≡ n → ⊥) → slice_get (slice_set xs n x) m ≡ slice_get xs m
get_other [] n m x h = refl
get_other (y ∷ xs) zero zero x h = absurd (h refl)
get_other (y ∷ xs) zero (suc m) x h = refl
get_other (y ∷ xs) (suc n) zero x h = refl
get_other (y ∷ xs) (suc n) (suc m) x h = get_other xs n m x (λ e. h (ap suc e))

-- an entry after a write is the one that was written, or one that was there
pub got_after : {A : Type 0} (xs : List A) (n m : ℕ) (x y : A) → slice_get (slice_set xs n x) m ≡ Some y →
    ((m ≡ n) × (y ≡ x)) ⊎ ((m ≡ n → ⊥) × (slice_get xs m ≡ Some y))
got_after [] n m x y e = absurd cc
got_after (z ∷ xs) zero zero x y e = inl (refl, cc)
got_after (z ∷ xs) zero (suc m) x y e = inr ((λ h. cc), e)
got_after (z ∷ xs) (suc n) zero x y e = inr ((λ h. cc), e)
got_after (z ∷ xs) (suc n) (suc m) x y e =
    elim (got_after xs n m x y e) [ inl p ↦ inl (ap suc p.0, p.1) | inr p ↦ inr ((λ h. p.0 (omega (arith, h))), p.1) ]

pub set_map : {A B : Type 0} (f : A → B) (xs : List A) (n : ℕ) (x : A) → map f (slice_set xs n x) ≡ slice_set (map f xs) n (f x)
set_map f [] n x = refl
set_map f (y ∷ xs) zero x = refl
set_map f (y ∷ xs) (suc n) x = ap (λ ys. f y ∷ ys) (set_map f xs n x)

pub get_map : {A B : Type 0} (f : A → B) (xs : List A) (n : ℕ) (x : A) → slice_get xs n ≡ Some x → slice_get (map f xs) n ≡ Some (f x)
get_map f [] n x e = absurd cc
get_map f (y ∷ xs) zero x e = cc
get_map f (y ∷ xs) (suc n) x e = get_map f xs n x e

pub get_map_none : {A B : Type 0} (f : A → B) (xs : List A) (n : ℕ) → slice_get xs n ≡ None → slice_get (map f xs) n ≡ None
get_map_none f [] n e = refl
get_map_none f (y ∷ xs) zero e = absurd cc
get_map_none f (y ∷ xs) (suc n) e = get_map_none f xs n e

-- two writes at one place, and two at different places
pub set_again : {A : Type 0} (xs : List A) (n : ℕ) (x y : A) → slice_set (slice_set xs n x) n y ≡ slice_set xs n y
set_again [] n x y = refl
set_again (z ∷ xs) zero x y = refl
set_again (z ∷ xs) (suc n) x y = ap (λ ys. z ∷ ys) (set_again xs n x y)

pub set_apart : {A : Type 0} (xs : List A) (n m : ℕ) (x y : A) → (n ≡ m → ⊥) → slice_set (slice_set xs n x) m y ≡ slice_set (slice_set xs m y) n x
set_apart [] n m x y h = refl
set_apart (z ∷ xs) zero zero x y h = absurd (h refl)
set_apart (z ∷ xs) zero (suc m) x y h = refl
set_apart (z ∷ xs) (suc n) zero x y h = refl
set_apart (z ∷ xs) (suc n) (suc m) x y h = ap (λ ys. z ∷ ys) (set_apart xs n m x y (λ e. h (ap suc e)))

-- what was there is written again
pub set_same : {A : Type 0} (xs : List A) (n : ℕ) (x : A) → slice_get xs n ≡ Some x → slice_set xs n x ≡ xs
set_same [] n x e = absurd cc
set_same (z ∷ xs) zero x e = let p : z ≡ x = cc in ap (λ y. y ∷ xs) (sym p)
set_same (z ∷ xs) (suc n) x e = ap (λ ys. z ∷ ys) (set_same xs n x e)

pub got_mapped : {A B : Type 0} (f : A → B) (xs : List A) (n : ℕ) → slice_get (map f xs) n ≡ option_map f (slice_get xs n)
got_mapped f xs n = slice_get-map f xs n
