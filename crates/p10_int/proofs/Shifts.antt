-- Shifts to the left.
use Rattle.std.proofs.Common.{◌≡◌, ℕ, ◌-◌, ◌^◌, ◌≤◌, true, false, ap, ◌∙◌, arith, ℤ, pos, negsuc, ◌≤ℤ◌, ◌*ℤ◌, FitsSigned, to_z, of_z, lit<, Result}
use Rattle.std.proofs.lemmas.Int.{ints, fits_signed_mul}
use Rattle.std.specs.Prelude.{int_lt, unsigned_abs}
use Rattle.std.specs.Int.{w128}
use Rattle.p10_int.specs.declared.types.IntType.{IntType}
use Rattle.p10_int.specs.declared.operators.Stop.{Stop}
use Rattle.p10_int.specs.declared.operators.Stop.TheVariants.{U4}
use Rattle.p10_int.specs.Types.{InRange}
use Rattle.p10_int.specs.Operators.{fitted, is_shift_count, shifted_left}
use Rattle.p10_int.proofs.Ranges.{wide_in, abs_of_wide}
use Rattle.p10_int.proofs.Products.{carried_product}

-- a value times a power of two below the width fits
pub shifted_fits : (t : IntType) (a p : ℤ) (k : ℕ) → InRange t a → p ≡ pos k → p ≤ℤ pos (2 ^ 63) → FitsSigned w128 (a *ℤ p)
shifted_fits t a p k r e h =
    fits_signed_mul w128 a p (2 ^ 64 - 1) (2 ^ 63) (abs_of_wide a (wide_in t a r)) (abs_of_power p k e h) (lit< tt)
  where
    abs_of_power : (p : ℤ) (k : ℕ) → p ≡ pos k → p ≤ℤ pos (2 ^ 63) → unsigned_abs p ≤ 2 ^ 63
    abs_of_power (pos n) k e h = omega (arith, ints)
    abs_of_power (negsuc n) k e h = absurd cc

-- the product that the code computes is the value shifted
pub carried_shift : (t : IntType) (a n p : ℤ) (r : Result ℤ Stop) → FitsSigned w128 a → FitsSigned w128 p → InRange t a → p ≤ℤ pos (2 ^ 63)
    → is_shift_count t n ≡ true → int_lt a (pos 0) ≡ false → p ≡ pos (2 ^ unsigned_abs n)
    → r ≡ fitted t U4 (to_z w128 (of_z w128 (to_z w128 (of_z w128 a) *ℤ to_z w128 (of_z w128 p)))) → r ≡ shifted_left t a n
unfolding shifted_left
carried_shift t a n p r f g i h counts sign e given =
    rw (counts, sign)
    (carried_product t U4 a p r f g (shifted_fits t a p (2 ^ unsigned_abs n) i e h) given ∙ ap (λ (q : ℤ). fitted t U4 (a *ℤ q)) e)
