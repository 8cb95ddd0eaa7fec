-- How many binary digits a number has.
use Rattle.std.proofs.Common.{◌≡◌, ℕ, zero, suc, ◌+◌, ◌*◌, ◌-◌, ◌^◌, ◌<◌, ◌≤◌, true, false, Bool as Flag, arith, ℤ, pos, negsuc, ◌≤ℤ◌, FitsSigned, to_z, of_z, refl, subst, pow-suc, inl, inr}
use Rattle.std.proofs.lemmas.Int.{ints, to_z-of_z}
use Rattle.std.proofs.lemmas.Nat.{leading_length}
use Rattle.std.proofs.lemmas.Bool.{cases_lt}
use Rattle.std.proofs.Math.Nat.{pow-le-pow_right}
use Rattle.std.specs.Prelude.{nat_lt, if◌then◌else◌, unsigned_abs}
use Rattle.std.specs.Int.{leading_zeros, w64, w128}
use Rattle.p10_range.specs.Rows.{exponent_over, binary_digits}

less : (n m : ℕ) → nat_lt n m ≡ true → n < m
less n m e = grind arith

not_less : (n m : ℕ) → nat_lt n m ≡ false → m ≤ n
not_less n m e = grind arith

over : (left k n : ℕ) → n < 2 ^ (k + left) → n < 2 ^ exponent_over left k n
over zero k n h = let same : k + 0 ≡ k = omega arith in subst (λ (e : ℕ). n < 2 ^ e) same h
over (suc left) k n h = by_test (nat_lt n (2 ^ k)) refl (over left (suc k) n (subst (λ (e : ℕ). n < 2 ^ e) (later k left) h))
  where
    later : (k left : ℕ) → k + suc left ≡ suc k + left
    later k left = omega arith

    by_test : (b : Flag) → nat_lt n (2 ^ k) ≡ b → n < 2 ^ exponent_over left (suc k) n → n < 2 ^ (if b then k else exponent_over left (suc k) n)
    by_test true e r = less n (2 ^ k) e
    by_test false e r = r

least : (left k j n : ℕ) → k ≤ j → n < 2 ^ j → exponent_over left k n ≤ j
least zero k j n h l = h
least (suc left) k j n h l = by_test (nat_lt n (2 ^ k)) refl (λ m. least left (suc k) j n m l)
  where
    by_test : (b : Flag) → nat_lt n (2 ^ k) ≡ b → (suc k ≤ j → exponent_over left (suc k) n ≤ j) → (if b then k else exponent_over left (suc k) n) ≤ j
    by_test true e r = h
    by_test false e r =
        elim (cases_lt k j) [
          | inl m ↦ r (omega (arith, m))
          | inr m ↦ absurd (let p = pow-le-pow_right {n = 2} (omega arith) {i = j} {j = k} m in let g = not_less n (2 ^ k) e in omega (arith, p, g, l))
        ]

-- a number has its binary digits, and no fewer would do
pub below_power : (n : ℕ) → n < 2 ^ 64 → n < 2 ^ binary_digits (pos n)
unfolding binary_digits
below_power n h = over 64 0 n h

pub digits_least : (n k : ℕ) → n < 2 ^ k → binary_digits (pos n) ≤ k
unfolding binary_digits
digits_least n k l = least 64 0 k n (omega arith) l

-- the digits of a 64-bit word are those after its leading zeros
pub digits_are : (n : ℕ) → n < 2 ^ 64 → 64 - leading_zeros w64 n ≡ binary_digits (pos n)
unfolding binary_digits
digits_are n h =
    let m = leading_length 64 n h in
    let d = digits_least n m.0 m.2 in
    let f = fewest m.0 (binary_digits (pos n)) m.3 (below_power n h) in
    omega (arith, m.1, d, f)
  where
    fewest : (d k : ℕ) → 2 ^ d ≤ 2 * n + 1 → n < 2 ^ k → d ≤ k
    fewest d k f l = elim (cases_lt k d) [ inl g ↦ absurd (let p = pow-le-pow_right {n = 2} (omega arith) {i = suc k} {j = d} (omega (arith, g)) in omega (arith, pow-suc 2 k, p, f, l)) | inr le ↦ le ]

-- the same for a number that the code carries
pub carried_digits : (z : ℤ) → FitsSigned w128 z → pos 0 ≤ℤ z → z ≤ℤ pos (2 ^ 64 - 1) → 64 - leading_zeros w64 (unsigned_abs (to_z w128 (of_z w128 z))) ≡ binary_digits z
carried_digits z f p h = rw (to_z-of_z w128 z f) (natural z p h)
  where
    natural : (z : ℤ) → pos 0 ≤ℤ z → z ≤ℤ pos (2 ^ 64 - 1) → 64 - leading_zeros w64 (unsigned_abs z) ≡ binary_digits z
    natural (pos m) p h = digits_are m (omega (arith, ints, h))
    natural (negsuc m) p h = absurd (omega (arith, ints, p))
