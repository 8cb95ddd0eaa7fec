-- By how much numbers differ from names: the rows of sums, of differences and of midpoints.
use Rattle.std.proofs.Common.{◌≡◌, ℕ, ◌≤◌, ◌<◌, Bool, true, false, List, refl, ◌∙◌, ap, sym, subst, Option, Some, None, ℤ, pos, negsuc, ◌+ℤ◌, ◌-ℤ◌, ◌≤ℤ◌, arith}
use Rattle.std.specs.Prelude.{IfSome, ◌&&◌, if◌then◌else◌, nat_eq, nat_le, int_le, int_div}
use Rattle.std.specs.Int.{int_div_euclid}
use Rattle.std.specs.Ordering.{int_eq}
use Rattle.std.proofs.lemmas.Bool.{eqb-true}
use Rattle.std.proofs.lemmas.Int.{ints}
use Rattle.p10_range.specs.Ranges.{Interval, IsMember}
use Rattle.p10_core.specs.Types.{PlainType}
use Rattle.p10_core.specs.Typed.{PlainValue}
use Rattle.p10_meaning.specs.Values.{Held}
use Rattle.p10_diff.specs.Bounds.{least, plus, kept, AtMost}
use Rattle.p10_diff.specs.Differences.{Name, now, worth, Pair, Differences, range_named, top, bottom, bound, named}
use Rattle.p10_diff.specs.Expressions.{value_range, at_least_two, only_divisor, is_constant, divisor, Distance, distance_of, distance, Part, part_of, part, Midpoint, midpoint_between, midpoint_of, midpoint, midpoint_up, midpoint_low, range_up, range_low, named_up, named_low, sum_up, sum_low, up, up_row, low, low_row}
use Rattle.p10_diff.specs.Domain.{DescribesDifferences}
use Rattle.p10_diff.proofs.Bounds.{least_most, plus_most, kept_most, most_of, top_most, bottom_most, part_most, part_least, rest_least, rest_greatest}
use Rattle.p10_diff.proofs.Named.{if_most, range_most, lies, bounded}

if_some : {A : Type 0} (P : A → Type 0) (b : Bool) (x y : Option A) → (b ≡ true → IfSome x P) → (b ≡ false → IfSome y P) → IfSome (if b then x else y) P
if_some P true x y f g = f refl
if_some P false x y f g = g refl

-- ## Divisors

pub record IsDivisor (k : ℕ) (z : ℤ) : Type 0 where
  pub positive : 0 < k
  pub is : z ≡ pos k

two_or_more : (low z : ℤ) → z ≡ low → IfSome (at_least_two low) (λ k. IsDivisor k z)
two_or_more (pos n) z e = if_some (λ k. IsDivisor k z) (nat_le 2 n) (Some n) None (λ q. record { positive = more n q; is = e }) (λ q. tt)
  where
    more : (n : ℕ) → nat_le 2 n ≡ true → 0 < n
    more n q = grind arith
two_or_more (negsuc n) z e = tt

only_member : (low high z : ℤ) → int_eq low high ≡ true → low ≤ℤ z → z ≤ℤ high → z ≡ low
only_member low high z e a b = grind (arith, ints)

only_divides : (r : Option Interval) (z : ℤ) → IfSome r (λ r. IsMember r z) → IfSome (only_divisor r) (λ k. IsDivisor k z)
only_divides None z h = tt
only_divides (Some r) z h = if_some (λ k. IsDivisor k z) (int_eq r.low r.high) (at_least_two r.low) None (λ q. two_or_more r.low z (only_member r.low r.high z q h.above h.below)) (λ q. tt)

module _ (p : Pair) (e : Differences) (head held : List Held) (d : DescribesDifferences p e head held) where
  -- what a variable holds
  abbrev pub number : ℕ → ℤ
  number n = worth head held (now n)

  -- ## Distances, parts and midpoints

  -- y - x
  abbrev pub IsDistance : Distance → ℤ → Type 0
  IsDistance t z = z ≡ (number t.above -ℤ number t.below)

  -- (y - x) / k
  pub record IsPart (q : Part) (z : ℤ) : Type 0 where
    pub positive : 0 < q.by
    pub is : z ≡ int_div (number q.of.above -ℤ number q.of.below) (pos q.by)

  pub distance_is : (a b : Option ℕ) (x y z : ℤ) → IfSome a (λ n. number n ≡ x) → IfSome b (λ n. number n ≡ y) → z ≡ (x -ℤ y) → IfSome (distance_of a b) (λ t. IsDistance t z)
  distance_is None b x y z h k q = tt
  distance_is (Some n) None x y z h k q = tt
  distance_is (Some n) (Some m) x y z h k q = q ∙ (λ i. sym h i -ℤ sym k i)

  pub part_is : (t : Option Distance) (k : Option ℕ) (x y z : ℤ) → IfSome t (λ t. IsDistance t x) → IfSome k (λ k. IsDivisor k y) → z ≡ int_div x y → IfSome (part_of t k) (λ q. IsPart q z)
  part_is None k x y z g h q = tt
  part_is (Some t) None x y z g h q = tt
  part_is (Some t) (Some k) x y z g h q = record { positive = h.positive; is = q ∙ (λ i. int_div (g i) (h.is i)) }

  -- x + (y - x) / k, where x is at most y
  pub record IsMidpoint (m : Midpoint) (x y : ℤ) : Type 0 where
    pub positive : 0 < m.by
    pub start : x ≡ number m.way.below
    pub step : y ≡ int_div (number m.way.above -ℤ number m.way.below) (pos m.by)
    pub some : pos 0 ≤ℤ m.at_least
    pub least : m.at_least ≤ℤ (number m.way.above -ℤ number m.way.below)
    pub most : (number m.way.above -ℤ number m.way.below) ≤ℤ m.at_most

  midpoint_between_is : (q : Part) (low high : Option ℤ) (x y : ℤ) → x ≡ number q.of.below → IsPart q y → AtMost (number q.of.below -ℤ number q.of.above) low → AtMost (number q.of.above -ℤ number q.of.below) high → IfSome (midpoint_between q low high) (λ m. IsMidpoint m x y)
  midpoint_between_is q None high x y s h a b = tt
  midpoint_between_is q (Some low) None x y s h a b = tt
  midpoint_between_is q (Some low) (Some high) x y s h a b = if_some (λ m. IsMidpoint m x y) (int_le low (pos 0)) (Some _) None
      (λ t. record { positive = h.positive; start = s; step = h.is; some = not_positive low t; least = turned (number q.of.below) (number q.of.above) low a; most = b }) (λ t. tt)
    where
      not_positive : (low : ℤ) → int_le low (pos 0) ≡ true → pos 0 ≤ℤ (pos 0 -ℤ low)
      not_positive low t = let l : low ≤ℤ pos 0 = of low t in omega (arith, ints, l)
        where
          of : (low : ℤ) → int_le low (pos 0) ≡ true → low ≤ℤ pos 0
          of low t = grind (arith, ints)

      turned : (x y low : ℤ) → (x -ℤ y) ≤ℤ low → (pos 0 -ℤ low) ≤ℤ (y -ℤ x)
      turned x y low l = omega (arith, ints, l)

  midpoint_is_of : (a : Option ℕ) (q : Option Part) (x y : ℤ) → IfSome a (λ n. number n ≡ x) → IfSome q (λ q. IsPart q y) → IfSome (midpoint_of p e a q) (λ m. IsMidpoint m x y)
  midpoint_is_of None q x y h k = tt
  midpoint_is_of (Some n) None x y h k = tt
  midpoint_is_of (Some n) (Some q) x y h k = if_some (λ m. IsMidpoint m x y) (nat_eq n q.of.below) (midpoint_between q (bound p e (now n) (now q.of.above)) (bound p e (now q.of.above) (now n))) None
      (λ t.
      let same : n ≡ q.of.below = eqb-true n q.of.below t in
      midpoint_between_is q (bound p e (now n) (now q.of.above)) (bound p e (now q.of.above) (now n)) x y (sym h ∙ ap number same) k
      (subst (λ (m : ℕ). AtMost (number m -ℤ number q.of.above) (bound p e (now n) (now q.of.above))) same (bounded p e head held d (now n) (now q.of.above)))
      (subst (λ (m : ℕ). AtMost (number q.of.above -ℤ number m) (bound p e (now q.of.above) (now n))) same (bounded p e head held d (now q.of.above) (now n)))) (λ t. tt)

  abbrev from_midpoint : Midpoint → ℤ
  from_midpoint m = int_div (number m.way.above -ℤ number m.way.below) (pos m.by)

  midpoint_up_most : (m : Midpoint) (x y : ℤ) → IsMidpoint m x y → (w : Name) → AtMost ((x +ℤ y) -ℤ worth head held w) (midpoint_up p e m w)
  midpoint_up_most m x y h w =
      let n : ℤ = worth head held w in
      let way : ℤ = number m.way.above -ℤ number m.way.below in
      least_most ((x +ℤ y) -ℤ n) (plus (bound p e (now m.way.below) w) (Some (int_div_euclid m.at_most (pos m.by)))) (plus (bound p e (now m.way.above) w) (Some (int_div_euclid m.at_least (pos m.by) -ℤ m.at_least)))
      (most_of ((x +ℤ y) -ℤ n) ((number m.way.below -ℤ n) +ℤ from_midpoint m) (plus (bound p e (now m.way.below) w) (Some (int_div_euclid m.at_most (pos m.by)))) (first x y (number m.way.below) (from_midpoint m) n h.start h.step)
      (plus_most (number m.way.below -ℤ n) (from_midpoint m) (bound p e (now m.way.below) w) (Some (int_div_euclid m.at_most (pos m.by))) (bounded p e head held d (now m.way.below) w) (part_most way m.at_least m.at_most m.by h.positive h.some h.least h.most)))
      (most_of ((x +ℤ y) -ℤ n) ((number m.way.above -ℤ n) +ℤ (from_midpoint m -ℤ way)) (plus (bound p e (now m.way.above) w) (Some (int_div_euclid m.at_least (pos m.by) -ℤ m.at_least))) (second x y (number m.way.below) (number m.way.above) (from_midpoint m) n h.start h.step)
      (plus_most (number m.way.above -ℤ n) (from_midpoint m -ℤ way) (bound p e (now m.way.above) w) (Some (int_div_euclid m.at_least (pos m.by) -ℤ m.at_least)) (bounded p e head held d (now m.way.above) w) (rest_least way m.at_least m.at_most m.by h.positive h.some h.least h.most)))
    where
      first : (x y b s n : ℤ) → x ≡ b → y ≡ s → ((x +ℤ y) -ℤ n) ≡ ((b -ℤ n) +ℤ s)
      first x y b s n q r = omega (arith, ints, q, r)

      second : (x y b a s n : ℤ) → x ≡ b → y ≡ s → ((x +ℤ y) -ℤ n) ≡ ((a -ℤ n) +ℤ (s -ℤ (a -ℤ b)))
      second x y b a s n q r = omega (arith, ints, q, r)

  midpoint_low_most : (m : Midpoint) (x y : ℤ) → IsMidpoint m x y → (w : Name) → AtMost (worth head held w -ℤ (x +ℤ y)) (midpoint_low p e m w)
  midpoint_low_most m x y h w =
      let n : ℤ = worth head held w in
      let way : ℤ = number m.way.above -ℤ number m.way.below in
      least_most (n -ℤ (x +ℤ y)) (plus (bound p e w (now m.way.below)) (Some (pos 0 -ℤ int_div_euclid m.at_least (pos m.by)))) (plus (bound p e w (now m.way.above)) (Some (m.at_most -ℤ int_div_euclid m.at_most (pos m.by))))
      (most_of (n -ℤ (x +ℤ y)) ((n -ℤ number m.way.below) +ℤ (pos 0 -ℤ from_midpoint m)) (plus (bound p e w (now m.way.below)) (Some (pos 0 -ℤ int_div_euclid m.at_least (pos m.by)))) (first x y (number m.way.below) (from_midpoint m) n h.start h.step)
      (plus_most (n -ℤ number m.way.below) (pos 0 -ℤ from_midpoint m) (bound p e w (now m.way.below)) (Some (pos 0 -ℤ int_div_euclid m.at_least (pos m.by))) (bounded p e head held d w (now m.way.below))
      (negated (int_div_euclid m.at_least (pos m.by)) (from_midpoint m) (part_least way m.at_least m.at_most m.by h.positive h.some h.least h.most))))
      (most_of (n -ℤ (x +ℤ y)) ((n -ℤ number m.way.above) +ℤ (way -ℤ from_midpoint m)) (plus (bound p e w (now m.way.above)) (Some (m.at_most -ℤ int_div_euclid m.at_most (pos m.by)))) (second x y (number m.way.below) (number m.way.above) (from_midpoint m) n h.start h.step)
      (plus_most (n -ℤ number m.way.above) (way -ℤ from_midpoint m) (bound p e w (now m.way.above)) (Some (m.at_most -ℤ int_div_euclid m.at_most (pos m.by))) (bounded p e head held d w (now m.way.above))
      (turned (int_div_euclid m.at_most (pos m.by)) m.at_most (from_midpoint m) way (rest_greatest way m.at_least m.at_most m.by h.positive h.some h.least h.most))))
    where
      first : (x y b s n : ℤ) → x ≡ b → y ≡ s → (n -ℤ (x +ℤ y)) ≡ ((n -ℤ b) +ℤ (pos 0 -ℤ s))
      first x y b s n q r = omega (arith, ints, q, r)

      second : (x y b a s n : ℤ) → x ≡ b → y ≡ s → (n -ℤ (x +ℤ y)) ≡ ((n -ℤ a) +ℤ ((a -ℤ b) -ℤ s))
      second x y b a s n q r = omega (arith, ints, q, r)

      negated : (a b : ℤ) → a ≤ℤ b → (pos 0 -ℤ b) ≤ℤ (pos 0 -ℤ a)
      negated a b l = omega (arith, ints, l)

      turned : (a b c d : ℤ) → (a -ℤ b) ≤ℤ (c -ℤ d) → (d -ℤ c) ≤ℤ (b -ℤ a)
      turned a b c d l = omega (arith, ints, l)

  -- ## Values

  -- all that is known of a number that a value gives
  pub record Measured (v : PlainValue) (z : ℤ) : Type 0 where
    pub above : (w : Name) → AtMost (z -ℤ worth head held w) (up p v e w)
    pub below : (w : Name) → AtMost (worth head held w -ℤ z) (low p v e w)
    pub is : IfSome (named p e.ranges v) (λ n. number n ≡ z)
    pub inside : IfSome (value_range e.ranges v) (λ r. IsMember r z)
    pub way : IfSome (distance p e.ranges v) (λ t. IsDistance t z)
    pub step : IfSome (part p e.ranges v) (λ q. IsPart q z)

  -- by a value's own row, and by its range
  pub row_above : (v : PlainValue) (z : ℤ) → IfSome (value_range e.ranges v) (λ r. IsMember r z) → (w : Name) → AtMost (z -ℤ worth head held w) (up_row p v e w) → AtMost (z -ℤ worth head held w) (up p v e w)
  row_above v z h w m = kept_most (z -ℤ worth head held w) (least (up_row p v e w) (range_up p e.ranges (value_range e.ranges v) w))
      (least_most (z -ℤ worth head held w) (up_row p v e w) (range_up p e.ranges (value_range e.ranges v) w) m (range_most z (worth head held w) (value_range e.ranges v) (range_named p e.ranges w) h (lies p e head held d w)))

  pub row_below : (v : PlainValue) (z : ℤ) → IfSome (value_range e.ranges v) (λ r. IsMember r z) → (w : Name) → AtMost (worth head held w -ℤ z) (low_row p v e w) → AtMost (worth head held w -ℤ z) (low p v e w)
  row_below v z h w m = kept_most (worth head held w -ℤ z) (least (low_row p v e w) (range_low p e.ranges (value_range e.ranges v) w))
      (least_most (worth head held w -ℤ z) (low_row p v e w) (range_low p e.ranges (value_range e.ranges v) w) m (range_most (worth head held w) z (range_named p e.ranges w) (value_range e.ranges v) (lies p e head held d w) h))

  pub named_above : (o : Option ℕ) (z : ℤ) → IfSome o (λ n. number n ≡ z) → (w : Name) → AtMost (z -ℤ worth head held w) (named_up p e o w)
  named_above None z h w = tt
  named_above (Some n) z h w = subst (λ z. AtMost (z -ℤ worth head held w) (bound p e (now n) w)) h (bounded p e head held d (now n) w)

  pub named_below : (o : Option ℕ) (z : ℤ) → IfSome o (λ n. number n ≡ z) → (w : Name) → AtMost (worth head held w -ℤ z) (named_low p e o w)
  named_below None z h w = tt
  named_below (Some n) z h w = subst (λ z. AtMost (worth head held w -ℤ z) (bound p e w (now n))) h (bounded p e head held d w (now n))

  pub divides : (v : PlainValue) (z : ℤ) → Measured v z → IfSome (divisor e.ranges v) (λ k. IsDivisor k z)
  divides v z h = if_some (λ k. IsDivisor k z) (is_constant v) (only_divisor (value_range e.ranges v)) None (λ q. only_divides (value_range e.ranges v) z h.inside) (λ q. tt)

  -- ## Sums and differences

  sum_first : (x y w : ℤ) → ((x +ℤ y) -ℤ w) ≡ ((x -ℤ w) +ℤ y)
  sum_first x y w = omega (arith, ints)

  sum_second : (x y w : ℤ) → ((x +ℤ y) -ℤ w) ≡ ((y -ℤ w) +ℤ x)
  sum_second x y w = omega (arith, ints)

  less_first : (x y w : ℤ) → (w -ℤ (x +ℤ y)) ≡ ((w -ℤ x) +ℤ (pos 0 -ℤ y))
  less_first x y w = omega (arith, ints)

  less_second : (x y w : ℤ) → (w -ℤ (x +ℤ y)) ≡ ((w -ℤ y) +ℤ (pos 0 -ℤ x))
  less_second x y w = omega (arith, ints)

  difference_up : (x y w : ℤ) → ((x -ℤ y) -ℤ w) ≡ ((x -ℤ w) +ℤ (pos 0 -ℤ y))
  difference_up x y w = omega (arith, ints)

  difference_low : (x y w : ℤ) → (w -ℤ (x -ℤ y)) ≡ ((w -ℤ x) +ℤ y)
  difference_low x y w = omega (arith, ints)

  with_midpoint_up : (o : Option Midpoint) (x y : ℤ) (w : Name) (sum : Option ℤ) → IfSome o (λ m. IsMidpoint m x y) → AtMost ((x +ℤ y) -ℤ worth head held w) sum → AtMost ((x +ℤ y) -ℤ worth head held w) (sum_up p e o w sum)
  with_midpoint_up None x y w sum h m = m
  with_midpoint_up (Some o) x y w sum h m = midpoint_up_most o x y h w

  with_midpoint_low : (o : Option Midpoint) (x y : ℤ) (w : Name) (sum : Option ℤ) → IfSome o (λ m. IsMidpoint m x y) → AtMost (worth head held w -ℤ (x +ℤ y)) sum → AtMost (worth head held w -ℤ (x +ℤ y)) (sum_low p e o w sum)
  with_midpoint_low None x y w sum h m = m
  with_midpoint_low (Some o) x y w sum h m = midpoint_low_most o x y h w

  pub sum_above : (a b : PlainValue) (x y : ℤ) → Measured a x → Measured b y → (w : Name) →
      AtMost ((x +ℤ y) -ℤ worth head held w) (sum_up p e (midpoint p e a b) w (least (plus (up p a e w) (top (value_range e.ranges b))) (plus (up p b e w) (top (value_range e.ranges a)))))
  sum_above a b x y h k w =
      let n : ℤ = worth head held w in
      let first : Option ℤ = plus (up p a e w) (top (value_range e.ranges b)) in
      let second : Option ℤ = plus (up p b e w) (top (value_range e.ranges a)) in
      with_midpoint_up (midpoint p e a b) x y w (least first second) (midpoint_is_of (named p e.ranges a) (part p e.ranges b) x y h.is k.step)
      (least_most ((x +ℤ y) -ℤ n) first second
      (most_of ((x +ℤ y) -ℤ n) ((x -ℤ n) +ℤ y) first (sum_first x y n) (plus_most (x -ℤ n) y (up p a e w) (top (value_range e.ranges b)) (h.above w) (top_most y (value_range e.ranges b) k.inside)))
      (most_of ((x +ℤ y) -ℤ n) ((y -ℤ n) +ℤ x) second (sum_second x y n) (plus_most (y -ℤ n) x (up p b e w) (top (value_range e.ranges a)) (k.above w) (top_most x (value_range e.ranges a) h.inside))))

  pub sum_below : (a b : PlainValue) (x y : ℤ) → Measured a x → Measured b y → (w : Name) →
      AtMost (worth head held w -ℤ (x +ℤ y)) (sum_low p e (midpoint p e a b) w (least (plus (low p a e w) (bottom (value_range e.ranges b))) (plus (low p b e w) (bottom (value_range e.ranges a)))))
  sum_below a b x y h k w =
      let n : ℤ = worth head held w in
      let first : Option ℤ = plus (low p a e w) (bottom (value_range e.ranges b)) in
      let second : Option ℤ = plus (low p b e w) (bottom (value_range e.ranges a)) in
      with_midpoint_low (midpoint p e a b) x y w (least first second) (midpoint_is_of (named p e.ranges a) (part p e.ranges b) x y h.is k.step)
      (least_most (n -ℤ (x +ℤ y)) first second
      (most_of (n -ℤ (x +ℤ y)) ((n -ℤ x) +ℤ (pos 0 -ℤ y)) first (less_first x y n) (plus_most (n -ℤ x) (pos 0 -ℤ y) (low p a e w) (bottom (value_range e.ranges b)) (h.below w) (bottom_most y (value_range e.ranges b) k.inside)))
      (most_of (n -ℤ (x +ℤ y)) ((n -ℤ y) +ℤ (pos 0 -ℤ x)) second (less_second x y n) (plus_most (n -ℤ y) (pos 0 -ℤ x) (low p b e w) (bottom (value_range e.ranges a)) (k.below w) (bottom_most x (value_range e.ranges a) h.inside))))

  pub difference_above : (a b : PlainValue) (x y : ℤ) → Measured a x → Measured b y → (w : Name) → AtMost ((x -ℤ y) -ℤ worth head held w) (plus (up p a e w) (bottom (value_range e.ranges b)))
  difference_above a b x y h k w =
      let n : ℤ = worth head held w in
      most_of ((x -ℤ y) -ℤ n) ((x -ℤ n) +ℤ (pos 0 -ℤ y)) (plus (up p a e w) (bottom (value_range e.ranges b))) (difference_up x y n)
      (plus_most (x -ℤ n) (pos 0 -ℤ y) (up p a e w) (bottom (value_range e.ranges b)) (h.above w) (bottom_most y (value_range e.ranges b) k.inside))

  pub difference_below : (a b : PlainValue) (x y : ℤ) → Measured a x → Measured b y → (w : Name) → AtMost (worth head held w -ℤ (x -ℤ y)) (plus (low p a e w) (top (value_range e.ranges b)))
  difference_below a b x y h k w =
      let n : ℤ = worth head held w in
      most_of (n -ℤ (x -ℤ y)) ((n -ℤ x) +ℤ y) (plus (low p a e w) (top (value_range e.ranges b))) (difference_low x y n)
      (plus_most (n -ℤ x) y (low p a e w) (top (value_range e.ranges b)) (h.below w) (top_most y (value_range e.ranges b) k.inside))
