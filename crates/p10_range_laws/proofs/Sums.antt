-- Each number of a row of sums, differences or negatives is a result.
use Rattle.std.proofs.Common.{◌≡◌, ap, ◌∙◌, arith, ℤ, pos, neg_ℤ, ◌+ℤ◌, ◌-ℤ◌, refl, subst, inl, inr}
use Rattle.std.proofs.lemmas.Int.{ints, clamps}
use Rattle.std.specs.Int.{int_min}
use Rattle.p10_int.specs.declared.types.IntType.{IntType}
use Rattle.p10_int.specs.declared.operators.Stop.TheVariants.{U1}
use Rattle.p10_int.specs.declared.operators.BinOp.TheVariants.{Add, Sub}
use Rattle.p10_int.specs.declared.operators.UnOp.TheVariants.{Neg}
use Rattle.p10_int.specs.Types.{InRange}
use Rattle.p10_int.specs.Operators.{fitted}
use Rattle.p10_range.specs.Ranges.{Interval, IsInhabited, IsMember}
use Rattle.p10_range.specs.Rows.{fitted_interval, sums, differences, negatives}
use Rattle.p10_range.proofs.Typed.{if_some}
use Rattle.p10_range.proofs.Pairs.{fitted_goes, lowest, highest}
use Rattle.p10_range_laws.specs.Tight.{Attains, AttainsUnary, SumsAreTight, DifferencesAreTight, NegationsAreTight}
use Rattle.p10_range_laws.proofs.Fitting.{Clips, Fits, clips}

-- a number of the common part is a value, and one of the exact interval
value : (t : IntType) (i r : Interval) (z : ℤ) → Clips t i r → IsMember r z → InRange t z
value t i r z c m = let l = c.low in let h = c.high in record { low = omega (arith, ints, clamps, l, m.above); high = omega (arith, ints, clamps, h, m.below) }

exact : (t : IntType) (i r : Interval) (z : ℤ) → Clips t i r → IsMember r z → IsMember i z
exact t i r z c m = let l = c.low in let h = c.high in record { above = omega (arith, ints, clamps, l, m.above); below = omega (arith, ints, clamps, h, m.below) }

sum_is : (t : IntType) (a b : Interval) (z x : ℤ) → IsInhabited a → IsInhabited b → IsMember (sums a b) z → InRange t z → x ≡ int_min a.high (z -ℤ b.low) → Attains Add t a b z
sum_is t a b z x i j m v f =
    let whole : x +ℤ (z -ℤ x) ≡ z = omega (arith, ints) in
    record {
      x = x;
      y = z -ℤ x;
      left = record { above = omega (arith, ints, clamps, f, m.above, i); below = omega (arith, ints, clamps, f) };
      right = record { above = omega (arith, ints, clamps, f); below = omega (arith, ints, clamps, f, m.below, j) };
      result = ap (fitted t U1) whole ∙ fitted_goes t U1 z v;
    }

difference_is : (t : IntType) (a b : Interval) (z x : ℤ) → IsInhabited a → IsInhabited b → IsMember (differences a b) z → InRange t z → x ≡ int_min a.high (z +ℤ b.high) → Attains Sub t a b z
difference_is t a b z x i j m v f =
    let whole : x -ℤ (x -ℤ z) ≡ z = omega (arith, ints) in
    record {
      x = x;
      y = x -ℤ z;
      left = record { above = omega (arith, ints, clamps, f, m.above, i); below = omega (arith, ints, clamps, f) };
      right = record { above = omega (arith, ints, clamps, f, m.below, j); below = omega (arith, ints, clamps, f) };
      result = ap (fitted t U1) whole ∙ fitted_goes t U1 z v;
    }

pub sums_are_tight : SumsAreTight
sums_are_tight t a b i j w =
    if_some (fitted_interval t (sums a b)) (λ r. (z : ℤ) → IsMember r z → Attains Add t a b z)
    (λ r e z m.
    let fits : Fits t (sums a b) = elim w [ inl s ↦ inl s | inr v ↦ inr (v a.low b.low (lowest a i) (lowest b j), v a.high b.high (highest a i) (highest b j)) ] in
    let c = clips t (sums a b) r (omega (arith, ints, i, j)) fits e in
    sum_is t a b z (int_min a.high (z -ℤ b.low)) i j (exact t (sums a b) r z c m) (value t (sums a b) r z c m) refl)

pub differences_are_tight : DifferencesAreTight
differences_are_tight t a b i j w =
    if_some (fitted_interval t (differences a b)) (λ r. (z : ℤ) → IsMember r z → Attains Sub t a b z)
    (λ r e z m.
    let fits : Fits t (differences a b) = elim w [ inl s ↦ inl s | inr v ↦ inr (v a.low b.high (lowest a i) (highest b j), v a.high b.low (highest a i) (lowest b j)) ] in
    let c = clips t (differences a b) r (omega (arith, ints, i, j)) fits e in
    difference_is t a b z (int_min a.high (z +ℤ b.high)) i j (exact t (differences a b) r z c m) (value t (differences a b) r z c m) refl)

negated : (x : ℤ) → neg_ℤ x ≡ pos 0 -ℤ x
negated x = omega (arith, ints)

back : (z : ℤ) → neg_ℤ (pos 0 -ℤ z) ≡ z
back z = omega (arith, ints)

pub negations_are_tight : NegationsAreTight
negations_are_tight t a i w =
    if_some (fitted_interval t (negatives a)) (λ r. (z : ℤ) → IsMember r z → AttainsUnary Neg t a z)
    (λ r e z m.
    let fits : Fits t (negatives a) = elim w [ inl s ↦ inl s | inr v ↦ inr (subst (InRange t) (negated a.high) (v a.high (highest a i)), subst (InRange t) (negated a.low) (v a.low (lowest a i))) ] in
    let c = clips t (negatives a) r (omega (arith, ints, i)) fits e in
    let n = exact t (negatives a) r z c m in
    record {
      x = pos 0 -ℤ z;
      operand = record { above = omega (arith, ints, n.below); below = omega (arith, ints, n.above) };
      result = ap (fitted t U1) (back z) ∙ fitted_goes t U1 z (value t (negatives a) r z c m);
    })
