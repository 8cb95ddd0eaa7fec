-- Products of numbers that aren't negative, and of powers of two.
use Rattle.std.proofs.Common.{◌≡◌, ◌^◌, ◌≤◌, arith, ℤ, pos, negsuc, ◌≤ℤ◌, ◌*ℤ◌}
use Rattle.std.proofs.lemmas.Int.{ints, clamps}
use Rattle.std.proofs.lemmas.Nat.{mul-le}
use Rattle.std.proofs.Math.Nat.{pow-le-pow_right}
use Rattle.std.specs.Prelude.{unsigned_abs}
use Rattle.std.specs.Int.{int_min, int_max}
use Rattle.p10_range.specs.Ranges.{Interval, from_to}
use Rattle.p10_range.specs.Rows.{products, doubled}
use Rattle.p10_range.proofs.Carried.{both}

-- products of numbers that aren't negative grow with both
pub product_le : (x y u v : ℤ) → pos 0 ≤ℤ x → x ≤ℤ y → pos 0 ≤ℤ u → u ≤ℤ v → (x *ℤ u) ≤ℤ (y *ℤ v)
product_le (pos x) (pos y) (pos u) (pos v) p h q k = let m = mul-le x u y v (omega (arith, ints, h)) (omega (arith, ints, k)) in omega (arith, ints, m)
product_le (negsuc x) y u v p h q k = absurd (omega (arith, ints, p))
product_le (pos x) (negsuc y) u v p h q k = absurd (omega (arith, ints, h))
product_le (pos x) (pos y) (negsuc u) v p h q k = absurd (omega (arith, ints, q))
product_le (pos x) (pos y) (pos u) (negsuc v) p h q k = absurd (omega (arith, ints, k))

pub abs_le : (n m : ℤ) → pos 0 ≤ℤ n → n ≤ℤ m → unsigned_abs n ≤ unsigned_abs m
abs_le (pos n) (pos m) p h = omega (arith, ints, h)
abs_le (negsuc n) m p h = absurd (omega (arith, ints, p))
abs_le (pos n) (negsuc m) p h = absurd (omega (arith, ints, h))

pub power_le : (n m : ℤ) → pos 0 ≤ℤ n → n ≤ℤ m → pos (2 ^ unsigned_abs n) ≤ℤ pos (2 ^ unsigned_abs m)
power_le n m p h = let l = pow-le-pow_right {n = 2} (omega arith) {i = unsigned_abs n} {j = unsigned_abs m} (abs_le n m p h) in omega (arith, ints, l)

pub doubled_le : (x y n m : ℤ) → pos 0 ≤ℤ x → x ≤ℤ y → pos 0 ≤ℤ n → n ≤ℤ m → doubled x n ≤ℤ doubled y m
doubled_le x y n m p h q k = product_le x y _ _ p h (omega (arith, ints)) (power_le n m q k)

-- the product of two intervals without negative numbers
pub natural_products : (a b : Interval) → pos 0 ≤ℤ a.low → a.low ≤ℤ a.high → pos 0 ≤ℤ b.low → b.low ≤ℤ b.high
    → from_to (a.low *ℤ b.low) (a.high *ℤ b.high) ≡ products a b
natural_products a b p h q k =
    let ll : a.low ≤ℤ a.low = omega (arith, ints) in
    let hh : a.high ≤ℤ a.high = omega (arith, ints) in
    let bl : b.low ≤ℤ b.low = omega (arith, ints) in
    let bh : b.high ≤ℤ b.high = omega (arith, ints) in
    let top : pos 0 ≤ℤ a.high = omega (arith, ints) in
    let right : pos 0 ≤ℤ b.high = omega (arith, ints) in
    ends (a.low *ℤ b.low) (a.low *ℤ b.high) (a.high *ℤ b.low) (a.high *ℤ b.high)
    (product_le a.low a.low b.low b.high p ll q k) (product_le a.low a.high b.low b.low p h q bl)
    (product_le a.low a.high b.high b.high p h right bh) (product_le a.high a.high b.low b.high top hh q k)
  where
    ends : (p q r s : ℤ) → p ≤ℤ q → p ≤ℤ r → q ≤ℤ s → r ≤ℤ s → from_to p s ≡ from_to (int_min (int_min p q) (int_min r s)) (int_max (int_max p q) (int_max r s))
    ends p q r s h k l m = both _ _ _ _ (omega (arith, ints, clamps, h, k, l, m)) (omega (arith, ints, clamps, h, k, l, m))
