-- A quotient with its remainder, and the complement as a difference.
use Rattle.std.proofs.Common.{◌≡◌, true, false, Bool as Flag, ℤ, pos, negsuc, ◌+ℤ◌, ◌*ℤ◌, arith, refl, sym, ◌∙◌, Ok, Err}
use Rattle.std.proofs.lemmas.Int.{ints, quot-rem}
use Rattle.std.proofs.Math.Nat.{div-le_self}
use Rattle.std.specs.Prelude.{if◌then◌else◌, int_div, int_rem}
use Rattle.std.specs.Ordering.{int_eq}
use Rattle.p10_int.specs.declared.types.IntType.{IntType}
use Rattle.p10_int.specs.declared.operators.Stop.{Stop}
use Rattle.p10_int.specs.declared.operators.Stop.TheVariants.{U1, U2}
use Rattle.p10_int.specs.Types.{InRange, least_of, is_signed_of, holds}
use Rattle.p10_int.specs.Conversion.{reduced}
use Rattle.p10_int.specs.Operators.{fitted, quotient, remainder}
use Rattle.p10_int.proofs.Ranges.{least_unsigned}
use Rattle.p10_int.proofs.Conversions.{reduced_keeps}
use Rattle.p10_int.proofs.Quotients.{rest_stands}

-- what an exact result that has a value is
fitted_keeps : (t : IntType) (stop : Stop) (z r : ℤ) → (is_signed_of t ≡ false → InRange t z) → fitted t stop z ≡ Ok r → r ≡ z
unfolding fitted
fitted_keeps t stop z r u e = by_sign (is_signed_of t) (holds t z) refl e
  where
    by_sign : (s h : Flag) → is_signed_of t ≡ s → (if s then (if h then Ok z else Err stop) else Ok (reduced t z)) ≡ Ok r → r ≡ z
    by_sign true true s e = cc
    by_sign true false s e = absurd cc
    by_sign false h s e = let k : reduced t z ≡ r = cc in sym k ∙ reduced_keeps t z (u s)

-- the quotient of two values of an unsigned type is one
quotient_in : (t : IntType) (a b : ℤ) → least_of t ≡ pos 0 → InRange t a → InRange t b → InRange t (int_div a b)
quotient_in t (pos n) (pos m) z i j = let d = div-le_self n m in record { low = omega (arith, ints, z); high = omega (arith, ints, i.high) }
quotient_in t (pos n) (negsuc m) z i j = absurd (omega (arith, ints, z, j.low))
quotient_in t (negsuc n) b z i j = absurd (omega (arith, ints, z, i.low))

quotient_is : (t : IntType) (a b q : ℤ) → InRange t a → InRange t b → quotient t a b ≡ Ok q → q ≡ int_div a b
unfolding quotient
quotient_is t a b q i j e = by_zero (int_eq b (pos 0)) e
  where
    by_zero : (z : Flag) → (if z then Err U2 else fitted t U1 (int_div a b)) ≡ Ok q → q ≡ int_div a b
    by_zero true e = absurd cc
    by_zero false e = fitted_keeps t U1 (int_div a b) q (λ s. quotient_in t a b (least_unsigned t s) i j) e

pub divided : (t : IntType) (a b q r : ℤ) → InRange t a → InRange t b → quotient t a b ≡ Ok q → remainder t a b ≡ Ok r → q *ℤ b +ℤ r ≡ a
divided t a b q r i j e f =
    let d : q ≡ int_div a b = quotient_is t a b q i j e in
    let s : Ok (int_rem a b) ≡ remainder t a b = rest_stands t a b q (sym e) in
    let m : r ≡ int_rem a b = cc in
    rw (d, m) (quot-rem a b)
