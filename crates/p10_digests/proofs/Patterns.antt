-- The first element of a list and those after it; numbers that differ.
use Rattle.std.proofs.Common.{◌≡◌, ℕ, zero, suc, ◌-◌, ◌<◌, ◌≤◌, ◌==◌, Bool, true, false, List, [], ◌∷◌, length, take, drop, get_or, refl, sym, ap, ◌∙◌, arith}
use Rattle.std.proofs.lemmas.Bool.Decides.{nat_tests}
use Rattle.std.proofs.lemmas.List.{take_all, take_rest, length-drop}

pub first_and_rest : {A : Type 0} (d : A) (xs : List A) → 1 ≤ length xs → xs ≡ get_or xs 0 d ∷ take (length xs - 1) (drop 1 xs)
first_and_rest d [] some = absurd (omega (arith, some))
first_and_rest d (x ∷ xs) some = ap (λ rest. x ∷ rest) (sym (take_all (length (x ∷ xs) - 1) xs (omega arith)))

-- the same where the first is known
pub first_is : {A : Type 0} (d x : A) (xs : List A) → 1 ≤ length xs → x ≡ get_or xs 0 d → xs ≡ x ∷ take (length xs - 1) (drop 1 xs)
first_is d x xs some is = first_and_rest d xs some ∙ ap (λ y. y ∷ take (length xs - 1) (drop 1 xs)) (sym is)

-- how many are after it
pub rest_length : {A : Type 0} (xs : List A) → length (take (length xs - 1) (drop 1 xs)) ≡ length xs - 1
rest_length xs = ap length (take_rest xs 1) ∙ length-drop 1 xs

-- fewer than one are none
pub none_there : {A : Type 0} (xs : List A) → length xs < 1 → xs ≡ []
none_there [] none = refl
none_there (x ∷ xs) none = absurd (omega (arith, none))

-- the element at a place and those after it
pub drop_first : {A : Type 0} (d : A) (xs : List A) (n : ℕ) → n < length xs → drop n xs ≡ get_or xs n d ∷ drop (suc n) xs
drop_first d [] n inside = absurd (omega (arith, inside))
drop_first d (x ∷ xs) zero inside = refl
drop_first d (x ∷ xs) (suc n) inside = drop_first d xs n (omega (arith, inside))

-- what is tested of numbers that differ
pub not_equal : (a b : ℕ) → (a ≡ b → ⊥) → (a == b) ≡ false
not_equal a b differ = by_test (a == b) refl
  where
    by_test : (same : Bool) → (a == b) ≡ same → (a == b) ≡ false
    by_test true e = absurd (differ (grind (arith, nat_tests)))
    by_test false e = e
