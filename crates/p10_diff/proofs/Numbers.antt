-- Quotients that are rounded down, and tests of numbers.
use Rattle.std.proofs.Common.{◌≡◌, ℕ, ◌/◌, ◌≤◌, nat_le, le-leb, Bool, true, false, Some, None, refl, ap, sym, ◌∙◌, subst, ℤ, pos, negsuc, ◌-ℤ◌, ◌≤ℤ◌, ◌<ℤ◌, arith}
use Rattle.std.specs.Prelude.{unsigned_abs, int_lt, int_le, if◌then◌else◌}
use Rattle.std.specs.Int.{int_div_euclid}
use Rattle.std.proofs.Math.Nat.{div-le_self}
use Rattle.std.proofs.lemmas.Int.{ints}
use Rattle.std.proofs.lemmas.Bool.Decides.{nat_tests}
use Rattle.p10_diff.specs.Bounds.{lowest, highest}
use Rattle.p10_diff.specs.Expressions.{at_least_two}

-- ## Tests

same_tests : (a b : Bool) → (a ≡ true → b ≡ true) → (b ≡ true → a ≡ true) → a ≡ b
same_tests true b f g = sym (f refl)
same_tests false true f g = g refl
same_tests false false f g = refl

at_most_less_one : (c m : ℤ) → c <ℤ m → int_le c (m -ℤ pos 1) ≡ true
at_most_less_one c m h = grind (arith, ints)

less_than : (c m : ℤ) → c ≤ℤ (m -ℤ pos 1) → int_lt c m ≡ true
less_than c m h = grind (arith, ints)

-- a number is less than another one where it is at most that less 1
pub less_is : (c m : ℤ) → int_lt c m ≡ int_le c (m -ℤ pos 1)
less_is c m = same_tests (int_lt c m) (int_le c (m -ℤ pos 1)) (λ e. let h : c <ℤ m = grind (arith, ints) in at_most_less_one c m h) (λ e. let h : c ≤ℤ (m -ℤ pos 1) = grind (arith, ints) in less_than c m h)

-- ## Quotients

pub magnitude_is : (z : ℤ) → pos 2 ≤ℤ z → z ≡ pos (unsigned_abs z)
magnitude_is (pos n) h = refl
magnitude_is (negsuc n) h = absurd (omega (arith, ints, h))

-- a number that is at least 2, and one that isn't
pub two_or_more : (z : ℤ) → pos 2 ≤ℤ z → Some (unsigned_abs z) ≡ at_least_two z
two_or_more (pos n) h = by (nat_le 2 n) (sym (le-leb 2 n (omega (arith, ints, h))))
  where
    by : (b : Bool) → true ≡ b → Some n ≡ (if b then Some n else None)
    by true e = refl
    by false e = absurd cc
two_or_more (negsuc n) h = absurd (omega (arith, ints, h))

pub less_than_two : (z : ℤ) → z <ℤ pos 2 → None ≡ at_least_two z
less_than_two (pos n) h = by (nat_le 2 n) refl
  where
    by : (b : Bool) → nat_le 2 n ≡ b → None ≡ (if b then Some n else None)
    by true e = let l : 2 ≤ n = grind (arith, nat_tests) in absurd (omega (arith, ints, h, l))
    by false e = refl
less_than_two (negsuc n) h = refl

quotient_above : (least d : ℤ) (k : ℕ) → least ≤ℤ pos 0 → least ≤ℤ d → least ≤ℤ int_div_euclid d (pos k)
quotient_above least (pos n) k h l = omega (arith, ints, h)
quotient_above least (negsuc n) k h l = let q : n / k ≤ n = div-le_self n k in omega (arith, ints, l, q)

quotient_below : (most d : ℤ) (k : ℕ) → pos 0 ≤ℤ most → d ≤ℤ most → int_div_euclid d (pos k) ≤ℤ most
quotient_below most (pos n) k h l = let q : n / k ≤ n = div-le_self n k in omega (arith, ints, l, q)
quotient_below most (negsuc n) k h l = omega (arith, ints, h)

-- a divisor of at least 2, and what it leaves, as the code answers it
pub quotient_is : (d by r now : ℤ) → pos 2 ≤ℤ by → r ≡ int_div_euclid d by → now ≡ r → now ≡ int_div_euclid d (pos (unsigned_abs by))
quotient_is d by r now h is same = same ∙ (is ∙ ap (int_div_euclid d) (magnitude_is by h))

pub quotient_low : (d by r now : ℤ) → pos 2 ≤ℤ by → lowest ≤ℤ d → r ≡ int_div_euclid d by → now ≡ r → lowest ≤ℤ now
quotient_low d by r now h l is same = subst (λ z. lowest ≤ℤ z) (sym (quotient_is d by r now h is same)) (quotient_above lowest d (unsigned_abs by) (omega (arith, ints)) l)

pub quotient_high : (d by r now : ℤ) → pos 2 ≤ℤ by → d ≤ℤ highest → r ≡ int_div_euclid d by → now ≡ r → now ≤ℤ highest
quotient_high d by r now h l is same = subst (λ z. z ≤ℤ highest) (sym (quotient_is d by r now h is same)) (quotient_below highest d (unsigned_abs by) (omega (arith, ints)) l)
