-- Remainders.
use Rattle.std.proofs.Common.{◌≡◌, ℕ, zero, suc, ◌/◌, ◌≤◌, refl, arith, pos, negsuc, neg_ℤ, ap, ◌∙◌, ℤ, FitsSigned, to_z, of_z, Result, Ok}
use Rattle.std.proofs.lemmas.Int.{to_z-of_z, rem_is, fits_signed_from_abs}
use Rattle.std.proofs.Math.Nat.{div-le_self}
use Rattle.std.specs.Prelude.{int_div, int_rem, unsigned_abs}
use Rattle.std.specs.Int.{w128}
use Rattle.p10_int.specs.declared.types.IntType.{IntType}
use Rattle.p10_int.specs.declared.operators.Stop.{Stop}
use Rattle.p10_int.specs.Types.{InRange}
use Rattle.p10_int.specs.Operators.{quotient, remainder, unless_stopped}
use Rattle.p10_int.proofs.Ranges.{wide_in, abs_of_wide}

-- where the quotient doesn't stop, neither does the remainder
pub rest_stands : (t : IntType) (a b q : ℤ) → Ok q ≡ quotient t a b → Ok (int_rem a b) ≡ remainder t a b
unfolding remainder
rest_stands t a b q e = ap (λ r. unless_stopped r (int_rem a b)) e

pub carried_rest : (t : IntType) (a b q : ℤ) → FitsSigned w128 a → FitsSigned w128 b → Ok q ≡ quotient t (to_z w128 (of_z w128 a)) (to_z w128 (of_z w128 b))
    → ◌≡◌ {A = Result ℤ Stop} (Ok (to_z w128 (of_z w128 (int_rem (to_z w128 (of_z w128 a)) (to_z w128 (of_z w128 b)))))) (remainder t a b)
carried_rest t a b q f g e =
    ap Ok (rem_is w128 a b f g) ∙ rest_stands t a b q (rw (to_z-of_z w128 a f, to_z-of_z w128 b g) at e)

abs_neg : (n : ℕ) → unsigned_abs (neg_ℤ (pos n)) ≡ n
abs_neg zero = refl
abs_neg (suc n) = refl

-- a quotient is no larger than its dividend
abs_quotient : (a b : ℤ) → unsigned_abs (int_div a b) ≤ unsigned_abs a
abs_quotient (pos n) (pos m) = div-le_self n m
abs_quotient (pos n) (negsuc m) = rw (abs_neg (n / suc m)) (div-le_self n (suc m))
abs_quotient (negsuc n) (pos m) = rw (abs_neg (suc n / m)) (div-le_self (suc n) m)
abs_quotient (negsuc n) (negsuc m) = div-le_self (suc n) (suc m)

pub carried_quotient_fits : (t : IntType) (a b : ℤ) → FitsSigned w128 a → FitsSigned w128 b → InRange t a
    → FitsSigned w128 (int_div (to_z w128 (of_z w128 a)) (to_z w128 (of_z w128 b)))
carried_quotient_fits t a b f g i =
    rw (to_z-of_z w128 a f, to_z-of_z w128 b g)
    (fits_signed_from_abs w128 (int_div a b) (let v = abs_of_wide a (wide_in t a i) in omega (arith, abs_quotient a b)))
