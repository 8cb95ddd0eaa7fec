-- What is at most bounds that may be lacking, and halves.
use Rattle.std.proofs.Common.{◌≡◌, ℕ, zero, suc, ◌/◌, ◌-◌, ◌+◌, ◌*◌, ◌≤◌, ◌<◌, Bool, true, false, refl, ◌∙◌, ap, sym, subst, Option, Some, None, ℤ, pos, negsuc, ◌+ℤ◌, ◌-ℤ◌, ◌≤ℤ◌, arith}
use Rattle.std.specs.Prelude.{IfSome, int_le, if◌then◌else◌}
use Rattle.std.specs.Int.{int_min, int_max, int_div_euclid}
use Rattle.std.specs.Prelude.{int_div}
use Rattle.std.proofs.lemmas.Int.{ints, clamps}
use Rattle.std.proofs.Math.Nat.{lt-mul-div-succ, div-le_of_le-mul}
use Rattle.p10_range.specs.Ranges.{Interval, IsMember}
use Rattle.p10_range.proofs.Signs.{floor_grows}
use Rattle.p10_diff.specs.Bounds.{least, greatest, plus, lowest, highest, kept, is_at_most, AtMost}
use Rattle.p10_diff.specs.Differences.{top, bottom}

min_most : (z a b : ℤ) → z ≤ℤ a → z ≤ℤ b → z ≤ℤ int_min a b
min_most z a b c d = omega (arith, ints, clamps, c, d)

pub max_left : (z a b : ℤ) → z ≤ℤ a → z ≤ℤ int_max a b
max_left z a b c = omega (arith, ints, clamps, c)

max_right : (z a b : ℤ) → z ≤ℤ b → z ≤ℤ int_max a b
max_right z a b c = omega (arith, ints, clamps, c)

sum_most : (x y a b : ℤ) → x ≤ℤ a → y ≤ℤ b → (x +ℤ y) ≤ℤ (a +ℤ b)
sum_most x y a b c d = omega (arith, ints, c, d)

pub least_most : (z : ℤ) (a b : Option ℤ) → AtMost z a → AtMost z b → AtMost z (least a b)
least_most z None b c d = d
least_most z (Some a) None c d = c
least_most z (Some a) (Some b) c d = min_most z a b c d

pub greatest_left : (z : ℤ) (a b : Option ℤ) → AtMost z a → AtMost z (greatest a b)
greatest_left z None b c = tt
greatest_left z (Some a) None c = tt
greatest_left z (Some a) (Some b) c = max_left z a b c

pub greatest_right : (z : ℤ) (a b : Option ℤ) → AtMost z b → AtMost z (greatest a b)
greatest_right z None b c = tt
greatest_right z (Some a) None c = tt
greatest_right z (Some a) (Some b) c = max_right z a b c

pub kept_most : (z : ℤ) (a : Option ℤ) → AtMost z a → AtMost z (kept a)
kept_most z None c = tt
kept_most z (Some a) c = by (int_le a highest)
  where
    by : (b : Bool) → AtMost z (if b then Some (int_max a lowest) else None)
    by true = max_left z a lowest c
    by false = tt

pub plus_most : (x y : ℤ) (a b : Option ℤ) → AtMost x a → AtMost y b → AtMost (x +ℤ y) (plus a b)
plus_most x y None b c d = tt
plus_most x y (Some a) None c d = tt
plus_most x y (Some a) (Some b) c d = kept_most (x +ℤ y) (Some (a +ℤ b)) (sum_most x y a b c d)

-- of equal numbers the same
pub most_of : (x y : ℤ) (a : Option ℤ) → x ≡ y → AtMost y a → AtMost x a
most_of x y a e d = subst (λ z. AtMost z a) (sym e) d

pub at_most_is : (z c : ℤ) (a : Option ℤ) → is_at_most a c ≡ true → AtMost z a → z ≤ℤ c
at_most_is z c None e d = absurd cc
at_most_is z c (Some a) e d = by a c e d
  where
    of_le : (a c : ℤ) → int_le a c ≡ true → a ≤ℤ c
    of_le a c e = grind (arith, ints)

    by : (a c : ℤ) → int_le a c ≡ true → z ≤ℤ a → z ≤ℤ c
    by a c e d = let l : a ≤ℤ c = of_le a c e in omega (arith, ints, l, d)

pub top_most : (z : ℤ) (r : Option Interval) → IfSome r (λ r. IsMember r z) → AtMost z (top r)
top_most z None d = tt
top_most z (Some r) d = kept_most z (Some r.high) d.below

pub bottom_most : (z : ℤ) (r : Option Interval) → IfSome r (λ r. IsMember r z) → AtMost (pos 0 -ℤ z) (bottom r)
bottom_most z None d = tt
bottom_most z (Some r) d = kept_most (pos 0 -ℤ z) (Some (pos 0 -ℤ r.low)) (by r.low d.above)
  where
    by : (low : ℤ) → low ≤ℤ z → (pos 0 -ℤ z) ≤ℤ (pos 0 -ℤ low)
    by low l = omega (arith, ints, l)

-- ## Parts of a distance

next_quotient : (n k : ℕ) → 0 < k → (suc n) / k ≤ suc (n / k)
next_quotient n k p = let l : n < k * (n / k + 1) = lt-mul-div-succ n p in div-le_of_le-mul k (by n (k * (n / k + 1)) (k * suc (n / k)) l (ap (λ m. k * m) (one_more (n / k))))
  where
    one_more : (m : ℕ) → m + 1 ≡ suc m
    one_more m = omega arith

    by : (n a b : ℕ) → n < a → a ≡ b → suc n ≤ b
    by n a b l e = omega (arith, l, e)

-- what is left of a number without its part grows with the number
rest_grows : (n j m k : ℕ) → 0 < k → m ≡ j + n → m / k ≤ j + n / k
rest_grows n zero m k p e = subst (λ m. m / k ≤ 0 + n / k) (sym (same m n e)) (at_least (n / k))
  where
    same : (m n : ℕ) → m ≡ 0 + n → m ≡ n
    same m n e = omega (arith, e)

    at_least : (m : ℕ) → m ≤ 0 + m
    at_least m = omega arith
rest_grows n (suc j) m k p e =
    let h : (j + n) / k ≤ j + n / k = rest_grows n j (j + n) k p refl in
    let l : (suc (j + n)) / k ≤ suc ((j + n) / k) = next_quotient (j + n) k p in
    subst (λ m. m / k ≤ suc j + n / k) (sym (one_more m j n e)) (by ((suc (j + n)) / k) ((j + n) / k) (n / k) j l h)
  where
    one_more : (m j n : ℕ) → m ≡ suc j + n → m ≡ suc (j + n)
    one_more m j n e = omega (arith, e)

    by : (a b c j : ℕ) → a ≤ suc b → b ≤ j + c → a ≤ suc j + c
    by a b c j l h = omega (arith, l, h)

pub rest_most : (m n : ℕ) (k : ℕ) → 0 < k → m ≤ n → (pos (n / k) -ℤ pos n) ≤ℤ (pos (m / k) -ℤ pos m)
rest_most m n k p l = by m n (n / k) (m / k) l (rest_grows m (n - m) n k p (apart m n l))
  where
    apart : (m n : ℕ) → m ≤ n → n ≡ (n - m) + m
    apart m n l = omega (arith, l)

    by : (m n a b : ℕ) → m ≤ n → a ≤ (n - m) + b → (pos a -ℤ pos n) ≤ℤ (pos b -ℤ pos m)
    by m n a b l h = omega (arith, ints, l, h)

-- the part of a distance that is at least l and at most h, where l isn't negative
module _ (d l h : ℤ) (k : ℕ) (some : 0 < k) (positive : pos 0 ≤ℤ l) (above : l ≤ℤ d) (below : d ≤ℤ h) where
  is_down : (d : ℤ) → pos 0 ≤ℤ d → int_div d (pos k) ≡ int_div_euclid d (pos k)
  is_down (pos n) p = omega (arith, ints)
  is_down (negsuc n) p = absurd (omega (arith, ints, p))

  from_zero : (l d : ℤ) → pos 0 ≤ℤ l → l ≤ℤ d → pos 0 ≤ℤ d
  from_zero l d p q = omega (arith, ints, p, q)

  pub part_is : int_div d (pos k) ≡ int_div_euclid d (pos k)
  part_is = is_down d (from_zero l d positive above)

  pub part_most : int_div d (pos k) ≤ℤ int_div_euclid h (pos k)
  part_most = subst (λ z. z ≤ℤ int_div_euclid h (pos k)) (sym part_is) (floor_grows d h k some below)

  pub part_least : int_div_euclid l (pos k) ≤ℤ int_div d (pos k)
  part_least = subst (λ z. int_div_euclid l (pos k) ≤ℤ z) (sym part_is) (floor_grows l d k some above)

  rests : (m n : ℤ) → pos 0 ≤ℤ m → m ≤ℤ n → (int_div_euclid n (pos k) -ℤ n) ≤ℤ (int_div_euclid m (pos k) -ℤ m)
  rests (pos m) (pos n) p q = let r : (pos (n / k) -ℤ pos n) ≤ℤ (pos (m / k) -ℤ pos m) = rest_most m n k some (omega (arith, ints, q)) in omega (arith, ints, r)
  rests (pos m) (negsuc n) p q = absurd (omega (arith, ints, q))
  rests (negsuc m) n p q = absurd (omega (arith, ints, p))

  pub rest_least : (int_div d (pos k) -ℤ d) ≤ℤ (int_div_euclid l (pos k) -ℤ l)
  rest_least = subst (λ z. (z -ℤ d) ≤ℤ (int_div_euclid l (pos k) -ℤ l)) (sym part_is) (rests l d positive above)

  pub rest_greatest : (int_div_euclid h (pos k) -ℤ h) ≤ℤ (int_div d (pos k) -ℤ d)
  rest_greatest = subst (λ z. (int_div_euclid h (pos k) -ℤ h) ≤ℤ (z -ℤ d)) (sym part_is) (rests d h (from_zero l d positive above) below)
