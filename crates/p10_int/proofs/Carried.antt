-- Numbers that the code carries in 128 bits.
use Rattle.std.proofs.Common.{◌≡◌, ◌-◌, ◌^◌, refl, ap, sym, ◌∙◌, arith, ℤ, pos, negsuc, neg_ℤ, ◌+ℤ◌, ◌-ℤ◌, ◌≤ℤ◌, FitsSigned, to_z, of_z, Result}
use Rattle.std.proofs.lemmas.Int.{ints, to_z-of_z}
use Rattle.std.specs.Prelude.{unsigned_abs}
use Rattle.std.specs.Int.{w128, int_rem_euclid, IsNonNegative}
use Rattle.p10_int.specs.declared.types.IntType.{IntType}
use Rattle.p10_int.specs.declared.operators.Stop.{Stop}
use Rattle.p10_int.specs.Types.{InRange, least_of, modulus_of}
use Rattle.p10_int.specs.Conversion.{reduced}
use Rattle.p10_int.specs.Operators.{fitted}
use Rattle.p10_int.proofs.Ranges.{wide_in}
use Rattle.p10_int.proofs.Conversions.{zero_in, reduced_in}

-- an exact result that fits 128 bits is handed on whole
pub carried : (t : IntType) (stop : Stop) (z : ℤ) (r : Result ℤ Stop) → FitsSigned w128 z → r ≡ fitted t stop (to_z w128 (of_z w128 z)) → r ≡ fitted t stop z
carried t stop z r fits e = e ∙ ap (fitted t stop) (to_z-of_z w128 z fits)

-- a least value and the way from it, which isn't negative, give the reduced number
sum_reduced : (t : IntType) (v l m r : ℤ) → l ≡ least_of t → m ≡ pos (modulus_of t) → IsNonNegative r → r ≡ int_rem_euclid (v -ℤ l) m → l +ℤ r ≡ reduced t v
unfolding reduced
sum_reduced t v l m r e f p s =
    let way : r ≡ int_rem_euclid (v -ℤ least_of t) (pos (modulus_of t)) = s ∙ ap (λ (x : ℤ). int_rem_euclid (v -ℤ x) m) e ∙ ap (int_rem_euclid (v -ℤ least_of t)) f in
    ap (λ (x : ℤ). x +ℤ r) e ∙ ap (λ (x : ℤ). least_of t +ℤ x) (sym (whole r p) ∙ ap (λ (x : ℤ). pos (unsigned_abs x)) way)
  where
    whole : (x : ℤ) → IsNonNegative x → pos (unsigned_abs x) ≡ x
    whole (pos n) q = refl
    whole (negsuc n) q = absurd q

pub carried_sum : (t : IntType) (v l m r : ℤ) → FitsSigned w128 v → FitsSigned w128 l → FitsSigned w128 m → FitsSigned w128 r
    → neg_ℤ (pos (2 ^ 63)) ≤ℤ v → v ≤ℤ pos (2 ^ 64 - 1) → l ≡ least_of t → m ≡ pos (modulus_of t) → IsNonNegative r
    → r ≡ int_rem_euclid (to_z w128 (of_z w128 (to_z w128 (of_z w128 v) -ℤ to_z w128 (of_z w128 l)))) (to_z w128 (of_z w128 m))
    → to_z w128 (of_z w128 (to_z w128 (of_z w128 l) +ℤ to_z w128 (of_z w128 r))) ≡ reduced t v
carried_sum t v l m r fv fl fm fr low high e f p s =
    let z = zero_in t in
    let least : InRange t (least_of t) = record { low = omega (arith, ints); high = omega (arith, ints, z.low, z.high) } in
    let from = wide_in t (least_of t) least in
    let to = wide_in t (reduced t v) (reduced_in t v) in
    let way : FitsSigned w128 (v -ℤ l) = omega (arith, ints, from.low, from.high) in
    let plain = rw (to_z-of_z w128 v fv, to_z-of_z w128 l fl, to_z-of_z w128 m fm, to_z-of_z w128 (v -ℤ l) way) at s in
    let sum : l +ℤ r ≡ reduced t v = sum_reduced t v l m r e f p plain in
    let fits : FitsSigned w128 (l +ℤ r) = omega (arith, ints, to.low, to.high, sum) in
    rw (to_z-of_z w128 l fl, to_z-of_z w128 r fr) (to_z-of_z w128 (l +ℤ r) fits ∙ sum)
