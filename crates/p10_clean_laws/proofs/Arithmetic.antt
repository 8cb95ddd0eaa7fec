-- Sums, differences, products and negations that overflow at no ends overflow nowhere.
use Rattle.std.proofs.Common.{◌≡◌, true, false, Bool, ap, ◌∙◌, arith, ℤ, neg_ℤ, ◌+ℤ◌, ◌-ℤ◌, ◌*ℤ◌, refl}
use Rattle.std.proofs.lemmas.Int.{ints}
use Rattle.std.specs.Prelude.{◌&&◌, ◌||◌, ◌↔◌, not, is_err}
use Rattle.p10_int.specs.declared.types.IntType.{IntType}
use Rattle.p10_int.specs.declared.operators.Stop.TheVariants.{U1}
use Rattle.p10_int.specs.declared.operators.BinOp.TheVariants.{Add, Sub, Mul}
use Rattle.p10_int.specs.declared.operators.UnOp.TheVariants.{Neg}
use Rattle.p10_int.specs.Types.{InRange, is_signed_of, holds}
use Rattle.p10_int.specs.Operators.{fitted}
use Rattle.p10_range.specs.Ranges.{Interval, IsInhabited, IsMember, IsWithin}
use Rattle.p10_range.specs.Rows.{values_of, products}
use Rattle.p10_range.proofs.Pairs.{lowest, highest}
use Rattle.p10_range.proofs.Holding.{products_have}
use Rattle.p10_range_laws.proofs.Products.{corners}
use Rattle.p10_clean.specs.Operations.{overflow_at, negation_at, overflows, negation_overflows}
use Rattle.p10_clean_laws.specs.Exact.{AreOperands, HasExact, CleanArithmeticIsExact}
use Rattle.p10_clean_laws.proofs.Testing.{in_holds, none_of_four, four_none, none_of_two, two_none, fitted_exact, exact_fitted}

value : (t : IntType) (a : Interval) (x : ℤ) → IsWithin a (values_of t) → IsMember a x → InRange t x
value t a x w m = record { low = omega (arith, ints, w.from_low, m.above); high = omega (arith, ints, w.to_high, m.below) }

-- one test, of two values and an exact result
passes : (t : IntType) (x y z : ℤ) → is_signed_of t ≡ true → not (holds t x && holds t y) || is_err (fitted t U1 z) ≡ false → InRange t z
passes t x y z g e = fitted_exact t U1 z g (none_of_two (not (holds t x && holds t y)) (is_err (fitted t U1 z)) e).1

passing : (t : IntType) (x y z : ℤ) → is_signed_of t ≡ true → InRange t x → InRange t y → InRange t z → not (holds t x && holds t y) || is_err (fitted t U1 z) ≡ false
passing t x y z g i j k = two_none (not (holds t x && holds t y)) (is_err (fitted t U1 z)) (values (holds t x) (holds t y) (in_holds t x i) (in_holds t y j)) (exact_fitted t U1 z g k)
  where
    values : (c d : Bool) → c ≡ true → d ≡ true → not (c && d) ≡ false
    values true true c d = refl
    values true false c d = absurd cc
    values false d c e = absurd cc

-- an operation that gives f exactly, by its tests at the ends
module _ (f : ℤ → ℤ → ℤ) (t : IntType) (a b : Interval) (g : is_signed_of t ≡ true) (o : AreOperands t a b) where
  abbrev test : ℤ → ℤ → Bool
  test x y = not (holds t x && holds t y) || is_err (fitted t U1 (f x y))

  -- the exact results at the ends
  record AtEnds : Type 0 where
    low_low : InRange t (f a.low b.low)
    low_high : InRange t (f a.low b.high)
    high_low : InRange t (f a.high b.low)
    high_high : InRange t (f a.high b.high)

  at_ends_of : test a.low b.low || (test a.low b.high || (test a.high b.low || test a.high b.high)) ≡ false → AtEnds
  at_ends_of e =
      let n = none_of_four (test a.low b.low) (test a.low b.high) (test a.high b.low) (test a.high b.high) e in
      record { low_low = passes t _ _ _ g n.0; low_high = passes t _ _ _ g n.1; high_low = passes t _ _ _ g n.2; high_high = passes t _ _ _ g n.3 }

  exact_passes : HasExact f t a b → test a.low b.low || (test a.low b.high || (test a.high b.low || test a.high b.high)) ≡ false
  exact_passes h =
      four_none (test a.low b.low) (test a.low b.high) (test a.high b.low) (test a.high b.high) (at a.low b.low (lowest a o.left) (lowest b o.right)) (at a.low b.high (lowest a o.left) (highest b o.right))
      (at a.high b.low (highest a o.left) (lowest b o.right)) (at a.high b.high (highest a o.left) (highest b o.right))
    where
      at : (x y : ℤ) → IsMember a x → IsMember b y → test x y ≡ false
      at x y m n = passing t x y (f x y) g (value t a x o.left_within m) (value t b y o.right_within n) (h x y m n)

pub clean_arithmetic_is_exact : CleanArithmeticIsExact
clean_arithmetic_is_exact = record {
  sums = λ t a b g o. (
    λ e. let k = at_ends_of (λ x y. x +ℤ y) t a b g o e in λ x y m n. record { low = omega (arith, ints, k.low_low.low, m.above, n.above); high = omega (arith, ints, k.high_high.high, m.below, n.below) },
    exact_passes (λ x y. x +ℤ y) t a b g o,
  );
  differences = λ t a b g o. (
    λ e. let k = at_ends_of (λ x y. x -ℤ y) t a b g o e in λ x y m n. record { low = omega (arith, ints, k.low_high.low, m.above, n.below); high = omega (arith, ints, k.high_low.high, m.below, n.above) },
    exact_passes (λ x y. x -ℤ y) t a b g o,
  );
  products = λ t a b g o. (
    λ e. let k = at_ends_of (λ x y. x *ℤ y) t a b g o e in
        let ends = corners (InRange t) (λ x y. x *ℤ y) a b k.low_low k.low_high k.high_low k.high_high in
        λ x y m n. let p = products_have a b x y m n in record { low = omega (arith, ints, ends.0.low, p.above); high = omega (arith, ints, ends.1.high, p.below) },
    exact_passes (λ x y. x *ℤ y) t a b g o,
  );
  negations = λ t a g i w. (negation_exact t a g, exact_negation t a g i w);
}
  where
    negation_exact : (t : IntType) (a : Interval) → is_signed_of t ≡ true → negation_overflows Neg t a ≡ false → (x : ℤ) → IsMember a x → InRange t (neg_ℤ x)
    negation_exact t a g e x m =
        let n = none_of_two (negation_at Neg t a.low) (negation_at Neg t a.high) e in
        let l = fitted_exact t U1 (neg_ℤ a.low) g (none_of_two (not (holds t a.low)) (is_err (fitted t U1 (neg_ℤ a.low))) n.0).1 in
        let h = fitted_exact t U1 (neg_ℤ a.high) g (none_of_two (not (holds t a.high)) (is_err (fitted t U1 (neg_ℤ a.high))) n.1).1 in
        record { low = omega (arith, ints, h.low, m.below); high = omega (arith, ints, l.high, m.above) }

    exact_negation : (t : IntType) (a : Interval) → is_signed_of t ≡ true → IsInhabited a → IsWithin a (values_of t) → ((x : ℤ) → IsMember a x → InRange t (neg_ℤ x)) → negation_overflows Neg t a ≡ false
    exact_negation t a g i w h = two_none (negation_at Neg t a.low) (negation_at Neg t a.high) (at a.low (lowest a i)) (at a.high (highest a i))
      where
        at : (x : ℤ) → IsMember a x → not (holds t x) || is_err (fitted t U1 (neg_ℤ x)) ≡ false
        at x m = two_none (not (holds t x)) (is_err (fitted t U1 (neg_ℤ x))) (ap not (in_holds t x (value t a x w m))) (exact_fitted t U1 (neg_ℤ x) g (h x m))
