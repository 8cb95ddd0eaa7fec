-- What is known goes on to describe a frame in which some variables have changed.
use Rattle.std.proofs.Common.{◌≡◌, ℕ, Bool, true, false, List, refl, ◌∙◌, ap, sym, subst, Option, Some, None, slice_get, ℤ, pos, ◌+ℤ◌, ◌-ℤ◌, ◌≤ℤ◌, arith}
use Rattle.std.specs.Prelude.{IfSome, ◌&&◌, ◌||◌, if◌then◌else◌, nat_eq, nat_le}
use Rattle.std.specs.Int.{int_max}
use Rattle.std.proofs.lemmas.Bool.{eqb-true, eqb-false}
use Rattle.std.proofs.lemmas.Int.{ints}
use Rattle.p10_range.specs.Ranges.{Interval, IsMember}
use Rattle.p10_meaning.specs.Values.{Held}
use Rattle.p10_absx.specs.Abstract.{Abstract}
use Rattle.p10_absx.specs.Environments.{Environment, known}
use Rattle.p10_absx.specs.Describing.{held_number, Describes}
use Rattle.p10_execution.proofs.Numbers.{or_false}
use Rattle.p10_walk.specs.Ranges.{DescribesNumbers}
use Rattle.p10_diff.specs.Bounds.{least, greatest, plus, kept, AtMost}
use Rattle.p10_diff.specs.Differences.{Name, now, was, same_name, is_marked, number_or_zero, worth, Pair, has_name, is_name, of_name, Differences, range_of, range_named, top, bottom, bound, fallen, hull_bound, learned_bound, unmarked_bounds, unmarked_fall}
use Rattle.p10_diff.specs.Expressions.{range_up, range_low}
use Rattle.p10_diff.specs.Domain.{only, assigned_bounds, assigned, declared, hull, distance_in, DescribesDifferences}
use Rattle.p10_diff.proofs.Bounds.{least_most, greatest_left, greatest_right, kept_most, most_of}
use Rattle.p10_diff.proofs.Named.{variable_lies, if_most, range_most, name_lies, bounded, falls_most, moved}

-- variables without a mark hold what they held
abbrev pub Unmarked : (ℕ → Bool) → List Held → List Held → Type 0
Unmarked marks held after = (k : ℕ) → marks k ≡ false → slice_get after k ≡ slice_get held k

kept_worth : (marks : ℕ → Bool) (head held after : List Held) → Unmarked marks held after → (u : Name) → is_marked marks u ≡ false → worth head after u ≡ worth head held u
kept_worth marks head held after same (now n) e = ap (λ h. number_or_zero (held_number h)) (same n e)
kept_worth marks head held after same (was n) e = refl

module _ (p : Pair) (marks : ℕ → Bool) (head held after : List Held) (same : Unmarked marks held after) where
  unmarked_hold : (bounds : Name → Name → Option ℤ) → ((u w : Name) → AtMost (worth head held u -ℤ worth head held w) (bounds u w)) → (u w : Name) → AtMost (worth head after u -ℤ worth head after w) (unmarked_bounds marks bounds u w)
  unmarked_hold bounds h u w = if_most (worth head after u -ℤ worth head after w) (is_marked marks u || is_marked marks w) None (bounds u w) (λ q. tt)
      (λ q.
      let free = or_false (is_marked marks u) (is_marked marks w) q in
      most_of (worth head after u -ℤ worth head after w) (worth head held u -ℤ worth head held w) (bounds u w) (λ i. kept_worth marks head held after same u free.0 i -ℤ kept_worth marks head held after same w free.1 i) (h u w))

  unmarked_falls : (fall : Option ℤ) → AtMost (distance_in p head held -ℤ distance_in p head head) fall → AtMost (distance_in p head after -ℤ distance_in p head head) (unmarked_fall p marks fall)
  unmarked_falls fall h = if_most (distance_in p head after -ℤ distance_in p head head) (marks p.below || marks p.above) None fall (λ q. tt)
      (λ q.
      let free = or_false (marks p.below) (marks p.above) q in
      most_of (distance_in p head after -ℤ distance_in p head head) (distance_in p head held -ℤ distance_in p head head) fall
      (λ i. (kept_worth marks head held after same (now p.above) free.1 i -ℤ kept_worth marks head held after same (now p.below) free.0 i) -ℤ distance_in p head head) h)

  -- marked variables have changed
  pub forgotten : (e : Differences) → DescribesDifferences p e head held → (ranges : Environment) → DescribesNumbers p.variables ranges head after →
      DescribesDifferences p (record { ranges = ranges; bounds = unmarked_bounds marks e.bounds; fall = unmarked_fall p marks e.fall }) head after
  forgotten e d ranges r = record { ranges = r; before = d.before; bounds = unmarked_hold e.bounds d.bounds; fall = unmarked_falls e.fall d.fall }

-- none has changed
pub unchanged : (p : Pair) (head held after : List Held) → ((k : ℕ) → slice_get after k ≡ slice_get held k) → (e : Differences) → DescribesDifferences p e head held → (ranges : Environment) → DescribesNumbers p.variables ranges head after →
    DescribesDifferences p (record e { ranges = ranges }) head after
unchanged p head held after same e d ranges r = record {
  ranges = r;
  before = d.before;
  bounds = λ u w. most_of (worth head after u -ℤ worth head after w) (worth head held u -ℤ worth head held w) (e.bounds u w) (λ i. all_kept u i -ℤ all_kept w i) (d.bounds u w);
  fall = most_of (distance_in p head after -ℤ distance_in p head head) (distance_in p head held -ℤ distance_in p head head) e.fall (λ i. (all_kept (now p.above) i -ℤ all_kept (now p.below) i) -ℤ distance_in p head head) d.fall;
}
  where
    all_kept : (u : Name) → worth head after u ≡ worth head held u
    all_kept u = kept_worth (λ k. false) head held after (λ k q. same k) u (none u)
      where
        none : (u : Name) → is_marked (λ k. false) u ≡ false
        none (now n) = refl
        none (was n) = refl

-- what is known but for ranges
pub record Differs (p : Pair) (e : Differences) (head held : List Held) : Type 0 where
  pub before : (n : ℕ) (a : Abstract) → known p.head n ≡ Some a → IsMember a.range (worth head held (was n))
  pub bounds : (u w : Name) → AtMost (worth head held u -ℤ worth head held w) (e.bounds u w)
  pub fall : AtMost (distance_in p head held -ℤ distance_in p head head) e.fall

pub differs : (p : Pair) (e : Differences) (head held : List Held) → DescribesDifferences p e head held → Differs p e head held
differs p e head held d = record { before = d.before; bounds = d.bounds; fall = d.fall }

-- the same of what is declared, in the frame as it is
pub differs_declared : (p : Pair) (n : ℕ) (e : Differences) (ranges : Environment) (head held : List Held) → DescribesDifferences p e head held → Differs p (declared p n e ranges) head held
differs_declared p n e ranges head held d = record { before = d.before; bounds = unmarked_hold p (only n) head held held (λ k q. refl) e.bounds d.bounds; fall = unmarked_falls p (only n) head held held (λ k q. refl) e.fall d.fall }

-- a variable that is assigned, where it is known by how much its number differs from names
pub assigned_so : (p : Pair) (n : ℕ) (head held after : List Held) → Unmarked (only n) held after → (e : Differences) → Differs p e head held → (ranges : Environment) → DescribesNumbers p.variables ranges head after → (ups lows : Name → Option ℤ) →
    (has_name p n ≡ true → (w : Name) → AtMost (worth head after (now n) -ℤ worth head held w) (ups w)) → (has_name p n ≡ true → (w : Name) → AtMost (worth head held w -ℤ worth head after (now n)) (lows w)) →
    DescribesDifferences p (assigned p n ups lows e ranges) head after
assigned_so p n head held after same e d ranges r ups lows above below = record {
  ranges = r;
  before = d.before;
  bounds = λ a b. by_name (has_name p n) refl a b;
  fall = unmarked_falls p (only n) head held after same e.fall d.fall;
}
  where
    number : ℤ
    number = worth head after (now n)

    lies_now : (w : Name) → IfSome (range_named p ranges w) (λ r. IsMember r (worth head after w))
    lies_now w = name_lies p ranges head after r.describes d.before w

    here : IfSome (range_of (known ranges n)) (λ r. IsMember r number)
    here = of (known ranges n) refl
      where
        of : (o : Option Abstract) → known ranges n ≡ o → IfSome (range_of o) (λ r. IsMember r number)
        of None q = tt
        of (Some a) q = variable_lies ranges head after r.describes n a q

    -- the marked name is the variable
    marked_is : (u : Name) → is_marked (only n) u ≡ true → worth head after u ≡ number
    marked_is (now m) q = ap (λ k. worth head after (now k)) (eqb-true m n q)
    marked_is (was m) q = absurd cc

    up_so : has_name p n ≡ true → (a b : Name) → is_marked (only n) a ≡ true → is_marked (only n) b ≡ false → AtMost (worth head after a -ℤ worth head after b) (kept (least (ups b) (range_up p ranges (range_of (known ranges n)) b)))
    up_so t a b q g =
        let z : ℤ = number -ℤ worth head after b in
        most_of (worth head after a -ℤ worth head after b) z (kept (least (ups b) (range_up p ranges (range_of (known ranges n)) b))) (λ i. marked_is a q i -ℤ worth head after b)
        (kept_most z (least (ups b) (range_up p ranges (range_of (known ranges n)) b)) (least_most z (ups b) (range_up p ranges (range_of (known ranges n)) b)
        (most_of z (number -ℤ worth head held b) (ups b) (λ i. number -ℤ kept_worth (only n) head held after same b g i) (above t b))
        (range_most number (worth head after b) (range_of (known ranges n)) (range_named p ranges b) here (lies_now b))))

    low_so : has_name p n ≡ true → (a b : Name) → is_marked (only n) a ≡ false → is_marked (only n) b ≡ true → AtMost (worth head after a -ℤ worth head after b) (kept (least (lows a) (range_low p ranges (range_of (known ranges n)) a)))
    low_so t a b g q =
        let z : ℤ = worth head after a -ℤ number in
        most_of (worth head after a -ℤ worth head after b) z (kept (least (lows a) (range_low p ranges (range_of (known ranges n)) a))) (λ i. worth head after a -ℤ marked_is b q i)
        (kept_most z (least (lows a) (range_low p ranges (range_of (known ranges n)) a)) (least_most z (lows a) (range_low p ranges (range_of (known ranges n)) a)
        (most_of z (worth head held a -ℤ number) (lows a) (λ i. kept_worth (only n) head held after same a g i -ℤ number) (below t a))
        (range_most (worth head after a) number (range_named p ranges a) (range_of (known ranges n)) (lies_now a) here)))

    named_so : has_name p n ≡ true → (a b : Name) → AtMost (worth head after a -ℤ worth head after b) (assigned_bounds p ranges n ups lows e.bounds a b)
    named_so t a b =
        let z : ℤ = worth head after a -ℤ worth head after b in
        let above_it : Option ℤ = kept (least (ups b) (range_up p ranges (range_of (known ranges n)) b)) in
        let below_it : Option ℤ = kept (least (lows a) (range_low p ranges (range_of (known ranges n)) a)) in
        if_most z (is_marked (only n) a) (if is_marked (only n) b then None else of_name p b above_it) (if is_marked (only n) b then of_name p a below_it else e.bounds a b)
        (λ q. if_most z (is_marked (only n) b) None (of_name p b above_it) (λ g. tt) (λ g. if_most z (is_name p b) above_it None (λ i. up_so t a b q g) (λ i. tt)))
        (λ q. if_most z (is_marked (only n) b) (of_name p a below_it) (e.bounds a b) (λ g. if_most z (is_name p a) below_it None (λ i. low_so t a b q g) (λ i. tt))
        (λ g. most_of z (worth head held a -ℤ worth head held b) (e.bounds a b) (λ i. kept_worth (only n) head held after same a q i -ℤ kept_worth (only n) head held after same b g i) (d.bounds a b)))

    by_name : (t : Bool) → has_name p n ≡ t → (a b : Name) → AtMost (worth head after a -ℤ worth head after b) ((if t then assigned_bounds p ranges n ups lows e.bounds else unmarked_bounds (only n) e.bounds) a b)
    by_name true t a b = named_so t a b
    by_name false t a b = unmarked_hold p (only n) head held after same e.bounds d.bounds a b

-- ## Hulls

module _ (p : Pair) (a b : Differences) (head held : List Held) where
  hull_bound_left : (z : ℤ) (x y m n : Option ℤ) → AtMost z m → AtMost z (hull_bound x y m n)
  hull_bound_left z None None m n h = tt
  hull_bound_left z None (Some y) m n h = kept_most z (greatest m n) (greatest_left z m n h)
  hull_bound_left z (Some x) y m n h = kept_most z (greatest m n) (greatest_left z m n h)

  hull_bound_right : (z : ℤ) (x y m n : Option ℤ) → AtMost z n → AtMost z (hull_bound x y m n)
  hull_bound_right z None None m n h = tt
  hull_bound_right z None (Some y) m n h = kept_most z (greatest m n) (greatest_right z m n h)
  hull_bound_right z (Some x) y m n h = kept_most z (greatest m n) (greatest_right z m n h)

  pub hull_first : DescribesDifferences p a head held → DescribesNumbers p.variables (hull p a b).ranges head held → DescribesDifferences p (hull p a b) head held
  hull_first d r = record {
    ranges = r;
    before = d.before;
    bounds = λ u w. hull_bound_left (worth head held u -ℤ worth head held w) (a.bounds u w) (b.bounds u w) (bound p a u w) (bound p b u w) (bounded p a head held d u w);
    fall = kept_most (distance_in p head held -ℤ distance_in p head head) (greatest (fallen p a) (fallen p b)) (greatest_left (distance_in p head held -ℤ distance_in p head head) (fallen p a) (fallen p b) (falls_most p a head held d));
  }

  pub hull_second : DescribesDifferences p b head held → DescribesNumbers p.variables (hull p a b).ranges head held → DescribesDifferences p (hull p a b) head held
  hull_second d r = record {
    ranges = r;
    before = d.before;
    bounds = λ u w. hull_bound_right (worth head held u -ℤ worth head held w) (a.bounds u w) (b.bounds u w) (bound p a u w) (bound p b u w) (bounded p b head held d u w);
    fall = kept_most (distance_in p head held -ℤ distance_in p head head) (greatest (fallen p a) (fallen p b)) (greatest_right (distance_in p head held -ℤ distance_in p head head) (fallen p a) (fallen p b) (falls_most p b head held d));
  }

-- ## What is learned

pub learned_so : (head held : List Held) (u w : Name) (c : ℤ) (bounds : Name → Name → Option ℤ) → (worth head held u -ℤ worth head held w) ≤ℤ c → ((a b : Name) → AtMost (worth head held a -ℤ worth head held b) (bounds a b)) →
    (a b : Name) → AtMost (worth head held a -ℤ worth head held b) (learned_bound u w c bounds a b)
learned_so head held u w c bounds h k a b = if_most (worth head held a -ℤ worth head held b) (same_name u a && same_name w b) (least (bounds a b) (kept (Some c))) (bounds a b)
    (λ q. least_most (worth head held a -ℤ worth head held b) (bounds a b) (kept (Some c)) (k a b) (kept_most (worth head held a -ℤ worth head held b) (Some c) (moved head held u w a b c q h)))
    (λ q. k a b)
