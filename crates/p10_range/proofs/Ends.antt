-- What an operation gives on two intervals lies between its results at their ends, where it grows or falls with each operand.
use Rattle.std.proofs.Common.{◌^◌, ◌≤◌, arith, ℤ, pos, ◌≤ℤ◌, ◌*ℤ◌}
use Rattle.std.proofs.lemmas.Int.{ints, clamps, by_lt_z}
use Rattle.std.proofs.lemmas.Nat.{pow_pos}
use Rattle.std.proofs.Math.Nat.{pow-le-pow_right}
use Rattle.std.specs.Prelude.{unsigned_abs, int_div}
use Rattle.p10_range.specs.Ranges.{Interval, between, hull_of, IsMember, IsWithin, IsInhabited}
use Rattle.p10_range.specs.Rows.{at_ends, halved}
use Rattle.p10_range.proofs.Corners.{abs_le}
use Rattle.p10_range.proofs.Signs.{mul_right, mul_right_falls, mul_commutes, quotient_grows, quotient_falls, negative_quotient_grows, floor_grows, floor_falls, negative_floor_grows}

pub between_up : (u v z : ℤ) → u ≤ℤ z → z ≤ℤ v → IsMember (between u v) z
between_up u v z h k = record { above = omega (arith, ints, clamps); below = omega (arith, ints, clamps) }

pub between_down : (u v z : ℤ) → v ≤ℤ z → z ≤ℤ u → IsMember (between u v) z
between_down u v z h k = record { above = omega (arith, ints, clamps); below = omega (arith, ints, clamps) }

-- a number between two numbers of intervals is one of their hull
pub hull_between : (i j : Interval) (u v z : ℤ) → IsMember i u → IsMember j v → IsMember (between u v) z → IsMember (hull_of i j) z
hull_between i j u v z p q r = record { above = omega (arith, ints, clamps, p.above, q.above, r.above); below = omega (arith, ints, clamps, p.below, q.below, r.below) }

-- an interval that has the ends of two others has their hull
pub between_least : (u v : ℤ) (k : Interval) → IsMember k u → IsMember k v → IsWithin (between u v) k
between_least u v k p q = record { from_low = omega (arith, ints, clamps, p.above, q.above); to_high = omega (arith, ints, clamps, p.below, q.below) }

pub hull_least : (i j k : Interval) → IsWithin i k → IsWithin j k → IsWithin (hull_of i j) k
hull_least i j k p q = record { from_low = omega (arith, ints, clamps, p.from_low, q.from_low); to_high = omega (arith, ints, clamps, p.to_high, q.to_high) }

-- f grows or falls with each operand, for right operands that are allowed
pub record IsMonotone (f : ℤ → ℤ → ℤ) (Allowed : ℤ → Type 0) : Type 0 where
  pub left : (l x h y : ℤ) → Allowed y → l ≤ℤ x → x ≤ℤ h → IsMember (between (f l y) (f h y)) (f x y)
  pub right : (x l y h : ℤ) → Allowed l → l ≤ℤ y → y ≤ℤ h → IsMember (between (f x l) (f x h)) (f x y)
  pub upward : (l y : ℤ) → Allowed l → l ≤ℤ y → Allowed y

pub ends_have : (f : ℤ → ℤ → ℤ) (Allowed : ℤ → Type 0) (a b : Interval) (x y : ℤ) → IsMonotone f Allowed → Allowed b.low → IsMember a x → IsMember b y → IsMember (at_ends f a b) (f x y)
ends_have f Allowed a b x y m d p q =
    hull_between (between (f a.low b.low) (f a.low b.high)) (between (f a.high b.low) (f a.high b.high)) (f a.low y) (f a.high y) (f x y)
    (m.right a.low b.low y b.high d q.above q.below) (m.right a.high b.low y b.high d q.above q.below)
    (m.left a.low x a.high y (m.upward b.low y d q.above) p.above p.below)

pub ends_grow : (f : ℤ → ℤ → ℤ) (Allowed : ℤ → Type 0) (a b c d : Interval) → IsMonotone f Allowed → Allowed d.low → IsInhabited a → IsInhabited b → IsWithin a c → IsWithin b d → IsWithin (at_ends f a b) (at_ends f c d)
ends_grow f Allowed a b c d m w i j p q =
    let al : IsMember c a.low = record { above = p.from_low; below = omega (arith, ints, i, p.to_high) } in
    let ah : IsMember c a.high = record { above = omega (arith, ints, i, p.from_low); below = p.to_high } in
    let bl : IsMember d b.low = record { above = q.from_low; below = omega (arith, ints, j, q.to_high) } in
    let bh : IsMember d b.high = record { above = omega (arith, ints, j, q.from_low); below = q.to_high } in
    hull_least (between (f a.low b.low) (f a.low b.high)) (between (f a.high b.low) (f a.high b.high)) (at_ends f c d)
    (between_least (f a.low b.low) (f a.low b.high) (at_ends f c d) (ends_have f Allowed c d a.low b.low m w al bl) (ends_have f Allowed c d a.low b.high m w al bh))
    (between_least (f a.high b.low) (f a.high b.high) (at_ends f c d) (ends_have f Allowed c d a.high b.low m w ah bl) (ends_have f Allowed c d a.high b.high m w ah bh))

-- ---- products
abbrev pub Any : ℤ → Type 0
Any y = Unit {0}

product_left : (l x h y : ℤ) → l ≤ℤ x → x ≤ℤ h → IsMember (between (l *ℤ y) (h *ℤ y)) (x *ℤ y)
product_left l x h y p q =
    by_lt_z y (pos 0)
    (λ s. between_down (l *ℤ y) (h *ℤ y) (x *ℤ y) (mul_right_falls x h y q (omega (arith, ints, s))) (mul_right_falls l x y p (omega (arith, ints, s))))
    (λ s. between_up (l *ℤ y) (h *ℤ y) (x *ℤ y) (mul_right l x y p s) (mul_right x h y q s))

product_right : (x l y h : ℤ) → l ≤ℤ y → y ≤ℤ h → IsMember (between (x *ℤ l) (x *ℤ h)) (x *ℤ y)
product_right x l y h p q = rw (mul_commutes x l, mul_commutes x h, mul_commutes x y) (product_left l y h x p q)

pub products_monotone : IsMonotone (λ x y. x *ℤ y) Any
products_monotone = record {
  left = λ l x h y d p q. product_left l x h y p q;
  right = λ x l y h d p q. product_right x l y h p q;
  upward = λ l y d p. tt;
}

-- ---- quotients by positive divisors
abbrev pub Positive : ℤ → Type 0
Positive y = pos 1 ≤ℤ y

quotient_right : (x l y h : ℤ) → pos 1 ≤ℤ l → l ≤ℤ y → y ≤ℤ h → IsMember (between (int_div x l) (int_div x h)) (int_div x y)
quotient_right x l y h d p q =
    by_lt_z x (pos 0)
    (λ s. between_up _ _ _ (negative_quotient_grows x l y (omega (arith, ints, s)) d p) (negative_quotient_grows x y h (omega (arith, ints, s)) (omega (arith, ints, d, p)) q))
    (λ s. between_down _ _ _ (quotient_falls x y h s (omega (arith, ints, d, p)) q) (quotient_falls x l y s d p))

pub quotients_monotone : IsMonotone int_div Positive
quotients_monotone = record {
  left = λ l x h y d p q. between_up _ _ _ (quotient_grows l x y d p) (quotient_grows x h y d q);
  right = quotient_right;
  upward = λ l y d p. omega (arith, ints, d, p);
}

-- ---- shifts to the right by counts that aren't negative
abbrev pub Natural : ℤ → Type 0
Natural y = pos 0 ≤ℤ y

powers_le : (n m : ℤ) → pos 0 ≤ℤ n → n ≤ℤ m → 2 ^ unsigned_abs n ≤ 2 ^ unsigned_abs m
powers_le n m p h = pow-le-pow_right {n = 2} (omega arith) {i = unsigned_abs n} {j = unsigned_abs m} (abs_le n m p h)

half_right : (x l y h : ℤ) → pos 0 ≤ℤ l → l ≤ℤ y → y ≤ℤ h → IsMember (between (halved x l) (halved x h)) (halved x y)
half_right x l y h d p q =
    let pl = pow_pos (unsigned_abs l) in
    let py = pow_pos (unsigned_abs y) in
    by_lt_z x (pos 0)
    (λ s. between_up _ _ _ (negative_floor_grows x _ _ s pl (powers_le l y d p)) (negative_floor_grows x _ _ s py (powers_le y h (omega (arith, ints, d, p)) q)))
    (λ s. between_down _ _ _ (floor_falls x _ _ s py (powers_le y h (omega (arith, ints, d, p)) q)) (floor_falls x _ _ s pl (powers_le l y d p)))

pub halves_monotone : IsMonotone halved Natural
halves_monotone = record {
  left = λ l x h y d p q. let w = pow_pos (unsigned_abs y) in between_up _ _ _ (floor_grows l x _ w p) (floor_grows x h _ w q);
  right = half_right;
  upward = λ l y d p. omega (arith, ints, d, p);
}
