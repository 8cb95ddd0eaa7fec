-- Sums and differences of values fit 128 bits.
use Rattle.std.proofs.Common.{◌≡◌, ◌-◌, ◌^◌, ℤ, pos, neg_ℤ, ◌≤ℤ◌, ◌+ℤ◌, ◌-ℤ◌, arith, subst, FitsSigned, to_z, of_z}
use Rattle.std.proofs.lemmas.Int.{ints, to_z-of_z}
use Rattle.std.specs.Int.{w128}
use Rattle.p10_int.specs.declared.types.IntType.{IntType}
use Rattle.p10_int.specs.declared.operators.BinOp.{BinOp}
use Rattle.p10_int.specs.declared.operators.BinOp.TheVariants.{Add, Sub}
use Rattle.p10_int.specs.Types.{InRange, least_of}
use Rattle.p10_int.specs.Operators.{IsRightOperand}
use Rattle.p10_int.proofs.Ranges.{wide_in}
use Rattle.p10_int.proofs.Conversions.{zero_in}

pub sum_fits : (t : IntType) (a b : ℤ) → InRange t a → InRange t b → FitsSigned w128 (a +ℤ b)
sum_fits t a b i j = let v = wide_in t a i in let w = wide_in t b j in omega (arith, ints)

pub difference_fits : (t : IntType) (a b : ℤ) → InRange t a → InRange t b → FitsSigned w128 (a -ℤ b)
difference_fits t a b i j = let v = wide_in t a i in let w = wide_in t b j in omega (arith, ints)

-- the same where the code computes them
pub carried_sum_fits : (op : BinOp) (t : IntType) (a b : ℤ) → op ≡ Add → FitsSigned w128 a → FitsSigned w128 b → InRange t a → IsRightOperand op t b
    → FitsSigned w128 (to_z w128 (of_z w128 a) +ℤ to_z w128 (of_z w128 b))
carried_sum_fits op t a b e f g i j = rw (to_z-of_z w128 a f, to_z-of_z w128 b g) (sum_fits t a b i (subst (λ o. IsRightOperand o t b) e j))

pub carried_difference_fits : (op : BinOp) (t : IntType) (a b : ℤ) → op ≡ Sub → FitsSigned w128 a → FitsSigned w128 b → InRange t a → IsRightOperand op t b
    → FitsSigned w128 (to_z w128 (of_z w128 a) -ℤ to_z w128 (of_z w128 b))
carried_difference_fits op t a b e f g i j = rw (to_z-of_z w128 a f, to_z-of_z w128 b g) (difference_fits t a b i (subst (λ o. IsRightOperand o t b) e j))

pub carried_negation_fits : (t : IntType) (a : ℤ) → FitsSigned w128 a → InRange t a → FitsSigned w128 (pos 0 -ℤ to_z w128 (of_z w128 a))
carried_negation_fits t a f i = rw (to_z-of_z w128 a f) (let v = wide_in t a i in omega (arith, ints))

-- the way from the least value of a type to a value of any type
pub carried_way_fits : (t : IntType) (v l : ℤ) → FitsSigned w128 v → FitsSigned w128 l → neg_ℤ (pos (2 ^ 63)) ≤ℤ v → v ≤ℤ pos (2 ^ 64 - 1) → l ≡ least_of t
    → FitsSigned w128 (to_z w128 (of_z w128 v) -ℤ to_z w128 (of_z w128 l))
carried_way_fits t v l f g low high e =
    let z = zero_in t in
    let least : InRange t (least_of t) = record { low = omega (arith, ints); high = omega (arith, ints, z.low, z.high) } in
    let w = wide_in t (least_of t) least in
    rw (to_z-of_z w128 v f, to_z-of_z w128 l g) (omega (arith, ints, w.low, w.high))
