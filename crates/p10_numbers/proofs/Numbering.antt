-- Numbers in a list, each once.
use Rattle.std.proofs.Common.{◌≡◌, ℤ, Bool, true, false, ◌||◌, cond, List, [], ◌∷◌, ◌++◌, refl, sym, ◌∙◌, ap, subst}
use Rattle.std.specs.List.{list_any}
use Rattle.std.specs.Ordering.{int_eq}
use Rattle.std.proofs.Math.Bool.{or-false}
use Rattle.std.proofs.lemmas.Bool.Decides.{Decides-int_eq}
use Rattle.std.proofs.lemmas.List.Folds.{list_any-append}
use Rattle.p10_numbers.specs.Numbers.{with_number}

same_number : (a b : ℤ) → int_eq a b ≡ true → a ≡ b
same_number a b e = (Decides-int_eq a b).0 e

-- the order of two numbers that are compared is free
pub either_way : (a b : ℤ) → int_eq a b ≡ int_eq b a
either_way a b = by (int_eq a b) refl (int_eq b a) refl
  where
    by : (p : Bool) → int_eq a b ≡ p → (q : Bool) → int_eq b a ≡ q → p ≡ q
    by true e true f = refl
    by true e false f = sym ((Decides-int_eq b a).1 (sym (same_number a b e))) ∙ f
    by false e true f = sym e ∙ (Decides-int_eq a b).1 (sym (same_number b a f))
    by false e false f = refl

-- which numbers are there after one more came
pub number_after : (z number : ℤ) (numbers : List ℤ) → list_any (int_eq z) (with_number numbers number) ≡ (list_any (int_eq z) numbers || int_eq z number)
number_after z number numbers =
    elim (list_any (int_eq number) numbers) as (λ b. list_any (int_eq number) numbers ≡ b → list_any (int_eq z) (cond b numbers (numbers ++ number ∷ [])) ≡ (list_any (int_eq z) numbers || int_eq z number)) [
      | true ↦ λ e. elim (int_eq z number) as (λ b. int_eq z number ≡ b → list_any (int_eq z) numbers ≡ (list_any (int_eq z) numbers || b)) [
        | true ↦ λ same. let there : list_any (int_eq z) numbers ≡ true = subst (λ n. list_any (int_eq n) numbers ≡ true) (sym (same_number z number same)) e in
            there ∙ sym (ap (λ b. b || true) there)
        | false ↦ λ other. sym (or-false (list_any (int_eq z) numbers))
      ] refl
      | false ↦ λ e. list_any-append (int_eq z) numbers (number ∷ []) ∙ ap (λ b. list_any (int_eq z) numbers || b) (or-false (int_eq z number))
    ] refl
