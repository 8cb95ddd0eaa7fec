-- Products, quotients and shifts grow or fall with each operand.
use Rattle.std.proofs.Common.{◌≡◌, ℕ, zero, suc, ◌/◌, ◌<◌, ◌≤◌, true, false, arith, ℤ, pos, negsuc, ◌≤ℤ◌, ◌<ℤ◌, ◌*ℤ◌}
use Rattle.std.proofs.lemmas.Int.{ints}
use Rattle.std.proofs.lemmas.Nat.{mul-le, le-div}
use Rattle.std.proofs.Math.Nat.{div-mul-le_self}
use Rattle.std.specs.Prelude.{int_div, int_le, int_lt}
use Rattle.std.specs.Int.{int_div_euclid}

-- ---- tests
pub le_true : (x y : ℤ) → x ≤ℤ y → int_le x y ≡ true
le_true x y h = grind (arith, ints)

pub le_false : (x y : ℤ) → y <ℤ x → int_le x y ≡ false
le_false x y h = grind (arith, ints)

pub lt_true : (x y : ℤ) → x <ℤ y → int_lt x y ≡ true
lt_true x y h = grind (arith, ints)

pub lt_false : (x y : ℤ) → y ≤ℤ x → int_lt x y ≡ false
lt_false x y h = grind (arith, ints)

pub of_le : (x y : ℤ) → int_le x y ≡ true → x ≤ℤ y
of_le x y e = grind (arith, ints)

pub of_not_le : (x y : ℤ) → int_le x y ≡ false → y <ℤ x
of_not_le x y e = grind (arith, ints)

pub of_lt : (x y : ℤ) → int_lt x y ≡ true → x <ℤ y
of_lt x y e = grind (arith, ints)

pub of_not_lt : (x y : ℤ) → int_lt x y ≡ false → y ≤ℤ x
of_not_lt x y e = grind (arith, ints)

-- ---- products
pub mul_right : (x y v : ℤ) → x ≤ℤ y → pos 0 ≤ℤ v → (x *ℤ v) ≤ℤ (y *ℤ v)
mul_right (pos x) (pos y) (pos n) h p = let m = mul-le x n y n (omega (arith, ints, h)) (omega arith) in omega (arith, ints, m)
mul_right (negsuc x) (pos y) (pos n) h p = omega (arith, ints)
mul_right (negsuc x) (negsuc y) (pos n) h p = let m = mul-le y n x n (omega (arith, ints, h)) (omega arith) in omega (arith, ints, m)
mul_right (pos x) (negsuc y) v h p = absurd (omega (arith, ints, h))
mul_right (pos x) (pos y) (negsuc n) h p = absurd (omega (arith, ints, p))
mul_right (negsuc x) (pos y) (negsuc n) h p = absurd (omega (arith, ints, p))
mul_right (negsuc x) (negsuc y) (negsuc n) h p = absurd (omega (arith, ints, p))

pub mul_right_falls : (x y v : ℤ) → x ≤ℤ y → v ≤ℤ pos 0 → (y *ℤ v) ≤ℤ (x *ℤ v)
mul_right_falls (pos x) (pos y) (negsuc n) h p = let m = mul-le x (suc n) y (suc n) (omega (arith, ints, h)) (omega arith) in omega (arith, ints, m)
mul_right_falls (negsuc x) (pos y) (negsuc n) h p = omega (arith, ints)
mul_right_falls (negsuc x) (negsuc y) (negsuc n) h p = let m = mul-le y (suc n) x (suc n) (omega (arith, ints, h)) (omega arith) in omega (arith, ints, m)
mul_right_falls (pos x) (negsuc y) v h p = absurd (omega (arith, ints, h))
mul_right_falls (pos x) (pos y) (pos zero) h p = omega (arith, ints)
mul_right_falls (negsuc x) (pos y) (pos zero) h p = omega (arith, ints)
mul_right_falls (negsuc x) (negsuc y) (pos zero) h p = omega (arith, ints)
mul_right_falls x y (pos (suc n)) h p = absurd (omega (arith, ints, p))

pub mul_commutes : (x y : ℤ) → x *ℤ y ≡ y *ℤ x
mul_commutes (pos x) (pos y) = omega (arith, ints)
mul_commutes (pos x) (negsuc y) = omega (arith, ints)
mul_commutes (negsuc x) (pos y) = omega (arith, ints)
mul_commutes (negsuc x) (negsuc y) = omega (arith, ints)

-- ---- quotients of natural numbers
pub div_grows : (m n k : ℕ) → 0 < k → m ≤ n → m / k ≤ n / k
div_grows m n k p h = let d = div-mul-le_self m k in le-div (m / k) n k p (omega (arith, d))

pub div_falls : (n j k : ℕ) → 0 < j → j ≤ k → n / k ≤ n / j
div_falls n j k p h =
    let d = div-mul-le_self n k in
    let m = mul-le (n / k) j (n / k) k (omega arith) h in
    le-div (n / k) n j p (omega (arith, d, m))

-- ---- quotients rounded toward zero, by positive divisors
pub quotient_grows : (x y d : ℤ) → pos 1 ≤ℤ d → x ≤ℤ y → int_div x d ≤ℤ int_div y d
quotient_grows (pos x) (pos y) (pos d) p h = let g = div_grows x y d (omega (arith, ints, p)) (omega (arith, ints, h)) in omega (arith, ints, g)
quotient_grows (negsuc x) (pos y) (pos d) p h = omega (arith, ints)
quotient_grows (negsuc x) (negsuc y) (pos d) p h = let g = div_grows (suc y) (suc x) d (omega (arith, ints, p)) (omega (arith, ints, h)) in omega (arith, ints, g)
quotient_grows (pos x) (negsuc y) d p h = absurd (omega (arith, ints, h))
quotient_grows x y (negsuc d) p h = absurd (omega (arith, ints, p))

pub quotient_falls : (x c d : ℤ) → pos 0 ≤ℤ x → pos 1 ≤ℤ c → c ≤ℤ d → int_div x d ≤ℤ int_div x c
quotient_falls (pos x) (pos c) (pos d) q p h = let g = div_falls x c d (omega (arith, ints, p)) (omega (arith, ints, h)) in omega (arith, ints, g)
quotient_falls (negsuc x) c d q p h = absurd (omega (arith, ints, q))
quotient_falls (pos x) (negsuc c) d q p h = absurd (omega (arith, ints, p))
quotient_falls (pos x) (pos c) (negsuc d) q p h = absurd (omega (arith, ints, h))

pub negative_quotient_grows : (x c d : ℤ) → x ≤ℤ pos 0 → pos 1 ≤ℤ c → c ≤ℤ d → int_div x c ≤ℤ int_div x d
negative_quotient_grows (negsuc x) (pos c) (pos d) q p h = let g = div_falls (suc x) c d (omega (arith, ints, p)) (omega (arith, ints, h)) in omega (arith, ints, g)
negative_quotient_grows (pos zero) (pos c) (pos d) q p h = let g = div_falls zero c d (omega (arith, ints, p)) (omega (arith, ints, h)) in let l = div-mul-le_self zero c in let r = div-mul-le_self zero d in omega (arith, ints, zero_div c, zero_div d)
  where
    zero_div : (k : ℕ) → zero / k ≡ zero
    zero_div k = grind arith
negative_quotient_grows (pos (suc x)) c d q p h = absurd (omega (arith, ints, q))
negative_quotient_grows (negsuc x) (negsuc c) d q p h = absurd (omega (arith, ints, p))
negative_quotient_grows (negsuc x) (pos c) (negsuc d) q p h = absurd (omega (arith, ints, h))
negative_quotient_grows (pos zero) (negsuc c) d q p h = absurd (omega (arith, ints, p))
negative_quotient_grows (pos zero) (pos c) (negsuc d) q p h = absurd (omega (arith, ints, h))

-- ---- quotients rounded down
pub floor_grows : (x y : ℤ) (m : ℕ) → 0 < m → x ≤ℤ y → int_div_euclid x (pos m) ≤ℤ int_div_euclid y (pos m)
floor_grows (pos x) (pos y) m p h = let g = div_grows x y m p (omega (arith, ints, h)) in omega (arith, ints, g)
floor_grows (negsuc x) (pos y) m p h = omega (arith, ints)
floor_grows (negsuc x) (negsuc y) m p h = let g = div_grows y x m p (omega (arith, ints, h)) in omega (arith, ints, g)
floor_grows (pos x) (negsuc y) m p h = absurd (omega (arith, ints, h))

pub floor_falls : (x : ℤ) (j k : ℕ) → pos 0 ≤ℤ x → 0 < j → j ≤ k → int_div_euclid x (pos k) ≤ℤ int_div_euclid x (pos j)
floor_falls (pos x) j k q p h = let g = div_falls x j k p h in omega (arith, ints, g)
floor_falls (negsuc x) j k q p h = absurd (omega (arith, ints, q))

pub negative_floor_grows : (x : ℤ) (j k : ℕ) → x <ℤ pos 0 → 0 < j → j ≤ k → int_div_euclid x (pos j) ≤ℤ int_div_euclid x (pos k)
negative_floor_grows (negsuc x) j k q p h = let g = div_falls x j k p h in omega (arith, ints, g)
negative_floor_grows (pos x) j k q p h = absurd (omega (arith, ints, q))
