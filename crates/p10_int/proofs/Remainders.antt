-- The size and the sign of a remainder.
use Rattle.std.proofs.Common.{◌≡◌, zero, suc, ◌<◌, true, false, Bool as Flag, ℤ, pos, negsuc, ◌≤ℤ◌, arith, refl, Result, Ok, Err}
use Rattle.std.proofs.lemmas.Int.{ints, rem_below}
use Rattle.std.proofs.Math.Nat.{mod-le}
use Rattle.std.specs.Prelude.{if◌then◌else◌, int_div, int_rem, unsigned_abs}
use Rattle.std.specs.Ordering.{int_eq}
use Rattle.p10_int.specs.declared.types.IntType.{IntType}
use Rattle.p10_int.specs.declared.operators.Stop.{Stop}
use Rattle.p10_int.specs.declared.operators.Stop.TheVariants.{U1, U2}
use Rattle.p10_int.specs.Operators.{fitted, quotient, remainder, unless_stopped}
use Rattle.p10_int.specs.Laws.{IsRemainder}

unless_is : (o : Result ℤ Stop) (z r : ℤ) → unless_stopped o z ≡ Ok r → r ≡ z
unless_is (Ok q) z r e = cc
unless_is (Err stop) z r e = absurd cc

-- a number other than 0 has a size
sized : (b : ℤ) → int_eq b (pos 0) ≡ false → 0 < unsigned_abs b
sized (pos zero) e = absurd cc
sized (pos (suc n)) e = omega arith
sized (negsuc n) e = omega arith

-- where the quotient doesn't stop the divisor isn't 0
divisor_is_sized : (t : IntType) (a b r : ℤ) → remainder t a b ≡ Ok r → 0 < unsigned_abs b
unfolding remainder quotient
divisor_is_sized t a b r e = by_zero (int_eq b (pos 0)) refl e
  where
    by_zero : (z : Flag) → int_eq b (pos 0) ≡ z → unless_stopped (if z then Err U2 else fitted t U1 (int_div a b)) (int_rem a b) ≡ Ok r → 0 < unsigned_abs b
    by_zero true s e = absurd cc
    by_zero false s e = sized b s

remainder_is : (t : IntType) (a b r : ℤ) → remainder t a b ≡ Ok r → r ≡ int_rem a b
unfolding remainder
remainder_is t a b r e = unless_is (quotient t a b) (int_rem a b) r e

not_negative : (a b : ℤ) → pos 0 ≤ℤ a → pos 0 ≤ℤ int_rem a b
not_negative (pos n) b h = omega (arith, ints)
not_negative (negsuc n) b h = absurd (omega (arith, ints, h))

not_positive : (a b : ℤ) → a ≤ℤ pos 0 → int_rem a b ≤ℤ pos 0
not_positive (pos n) b h = let m = mod-le n (unsigned_abs b) in omega (arith, ints, h, m)
not_positive (negsuc n) b h = omega (arith, ints)

pub small : (t : IntType) (a b r : ℤ) → remainder t a b ≡ Ok r → IsRemainder a b r
small t a b r e =
    let is = remainder_is t a b r e in
    record {
      smaller = rw (is) (rem_below a b (divisor_is_sized t a b r e));
      not_negative = rw (is) (not_negative a b);
      not_positive = rw (is) (not_positive a b);
    }
