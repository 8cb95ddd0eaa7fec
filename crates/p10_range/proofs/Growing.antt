-- Wider operands have wider rows: arithmetic and shifts.
use Rattle.std.proofs.Common.{◌≡◌, suc, ◌-◌, true, false, Bool as Flag, ap, sym, arith, ℤ, pos, negsuc, ◌≤ℤ◌, ◌<ℤ◌, ◌-ℤ◌, ◌*ℤ◌, refl, subst, Option, Some, None, ◌⊎◌, inl, inr}
use Rattle.std.proofs.lemmas.Int.{ints, clamps}
use Rattle.std.proofs.Math.Nat.{div-le_self}
use Rattle.std.specs.Prelude.{◌&&◌, if◌then◌else◌, IsSomeAnd, int_le, int_lt, int_div}
use Rattle.std.specs.Option.{option_map, option_and_then}
use Rattle.std.specs.Int.{int_min, int_max}
use Rattle.p10_int.specs.declared.types.IntType.{IntType}
use Rattle.p10_int.specs.Types.{InRange, is_signed_of, least_of, greatest_of, width_of, promoted}
use Rattle.p10_int.proofs.Conversions.{zero_in}
use Rattle.p10_range.specs.Ranges.{Interval, from_to, IsInhabited, IsMember, IsWithin, inhabited_of, meet_of, not_negative, between}
use Rattle.p10_range.specs.Rows.{values_of, clipped, exact_or_all, fitted_interval, sums, differences, products, negatives, magnitude, up_to_magnitude, quotients, quotients_at_ends, rests, remainders, shift_counts, halved, shifted_by, shifts_left, shifts_right, at_ends}
use Rattle.p10_range.specs.Laws.{IsWithinRow}
use Rattle.p10_range.proofs.Signs.{le_true, of_le, of_not_le, of_lt, of_not_lt}
use Rattle.p10_range.proofs.Ends.{ends_grow, between_least, hull_least, products_monotone, quotients_monotone, halves_monotone, Any, Positive, Natural}
use Rattle.p10_range.proofs.Corners.{doubled_le}
use Rattle.p10_range.proofs.Holding.{met, value_member, magnitudes_have}

pub through : (i j k : Interval) → IsWithin i j → IsWithin j k → IsWithin i k
through i j k p q = record { from_low = omega (arith, ints, p.from_low, q.from_low); to_high = omega (arith, ints, p.to_high, q.to_high) }

pub within_itself : (i : Interval) → IsWithin i i
within_itself i = record { from_low = omega (arith, ints); to_high = omega (arith, ints) }

-- ---- meeting and fitting
-- an interval with a number, and the wider one
inhabited_grows : (i j : Interval) → IsWithin i j → IsWithinRow (inhabited_of i) (inhabited_of j)
inhabited_grows i j w = by_test (int_le i.low i.high) refl
  where
    by_test : (b : Flag) → int_le i.low i.high ≡ b → IsWithinRow (if b then Some i else None) (inhabited_of j)
    by_test true e =
        let l = of_le i.low i.high e in
        subst (λ o. IsSomeAnd o (λ s. IsWithin i s)) (sym (ap (λ (b : Flag). if b then Some j else None) (le_true j.low j.high (omega (arith, ints, l, w.from_low, w.to_high))))) w
    by_test false e = tt

pub meet_grows : (i j k : Interval) → IsWithin i j → IsWithinRow (meet_of i k) (meet_of j k)
meet_grows i j k w =
    inhabited_grows (met i k) (met j k) (record { from_low = omega (arith, ints, clamps, w.from_low); to_high = omega (arith, ints, clamps, w.to_high) })

pub not_negative_grows : (i j : Interval) → IsWithin i j → IsWithinRow (not_negative i) (not_negative j)
not_negative_grows i j w =
    inhabited_grows (from_to (int_max i.low (pos 0)) i.high) (from_to (int_max j.low (pos 0)) j.high)
    (record { from_low = omega (arith, ints, clamps, w.from_low); to_high = w.to_high })

-- an interval of which the type has all, and one that lies in it
pub exact_grows : (t : IntType) (i j : Interval) → IsInhabited i → IsWithin i j → IsWithin (exact_or_all t i) (exact_or_all t j)
exact_grows t i j o w = by_tests (int_le (least_of t) i.low) (int_le i.high (greatest_of t)) (int_le (least_of t) j.low) (int_le j.high (greatest_of t)) refl refl refl refl
  where
    by_tests : (b c d e : Flag) → int_le (least_of t) i.low ≡ b → int_le i.high (greatest_of t) ≡ c → int_le (least_of t) j.low ≡ d → int_le j.high (greatest_of t) ≡ e
        → IsWithin (if b && c then i else values_of t) (if d && e then j else values_of t)
    by_tests true true true true b c d e = w
    by_tests true true true false b c d e = record { from_low = of_le _ _ b; to_high = of_le _ _ c }
    by_tests true true false y b c d e = record { from_low = of_le _ _ b; to_high = of_le _ _ c }
    by_tests false x true true b c d e = let n = of_not_le (least_of t) i.low b in let l = of_le (least_of t) j.low d in absurd (omega (arith, ints, n, l, w.from_low))
    by_tests true false true true b c d e = let n = of_not_le i.high (greatest_of t) c in let l = of_le j.high (greatest_of t) e in absurd (omega (arith, ints, n, l, w.to_high))
    by_tests false x false y b c d e = within_itself (values_of t)
    by_tests false x true false b c d e = within_itself (values_of t)
    by_tests true false false y b c d e = within_itself (values_of t)
    by_tests true false true false b c d e = within_itself (values_of t)

pub fitted_grows : (t : IntType) (i j : Interval) → IsInhabited i → IsWithin i j → IsWithinRow (fitted_interval t i) (fitted_interval t j)
unfolding fitted_interval
fitted_grows t i j o w = by_sign (is_signed_of t)
  where
    by_sign : (s : Flag) → IsWithinRow (if s then clipped t i else Some (exact_or_all t i)) (if s then clipped t j else Some (exact_or_all t j))
    by_sign true = meet_grows i j (values_of t) w
    by_sign false = exact_grows t i j o w

-- ---- arithmetic
pub sums_grow : (a b c d : Interval) → IsWithin a c → IsWithin b d → IsWithin (sums a b) (sums c d)
sums_grow a b c d w v = record { from_low = omega (arith, ints, w.from_low, v.from_low); to_high = omega (arith, ints, w.to_high, v.to_high) }

pub differences_grow : (a b c d : Interval) → IsWithin a c → IsWithin b d → IsWithin (differences a b) (differences c d)
differences_grow a b c d w v = record { from_low = omega (arith, ints, w.from_low, v.to_high); to_high = omega (arith, ints, w.to_high, v.from_low) }

pub negatives_grow : (a c : Interval) → IsWithin a c → IsWithin (negatives a) (negatives c)
negatives_grow a c w = record { from_low = omega (arith, ints, w.to_high); to_high = omega (arith, ints, w.from_low) }

pub products_grow : (a b c d : Interval) → IsInhabited a → IsInhabited b → IsWithin a c → IsWithin b d → IsWithin (products a b) (products c d)
products_grow a b c d i j w v = ends_grow (λ x y. x *ℤ y) Any a b c d products_monotone tt i j w v

-- the interval over four numbers has one
pub four : (p q r s : ℤ) → int_min (int_min p q) (int_min r s) ≤ℤ int_max (int_max p q) (int_max r s)
four p q r s = omega (arith, ints, clamps)

pub products_inhabited : (a b : Interval) → IsInhabited (products a b)
products_inhabited a b = four (a.low *ℤ b.low) (a.low *ℤ b.high) (a.high *ℤ b.low) (a.high *ℤ b.high)

-- ---- quotients
magnitude_grows : (a c : Interval) → IsWithin a c → magnitude a ≤ℤ magnitude c
magnitude_grows a c w = omega (arith, ints, clamps, w.from_low, w.to_high)

-- toward zero a value stays one
pub quotient_stays : (t : IntType) (x y : ℤ) → InRange t x → InRange t (int_div x y) ⊎ (y <ℤ pos 1)
quotient_stays t (pos n) (pos m) i = let d = div-le_self n m in let z = zero_in t in inl (record { low = omega (arith, ints, z.low); high = omega (arith, ints, i.high, d) })
quotient_stays t (negsuc n) (pos m) i = let d = div-le_self (suc n) m in let z = zero_in t in inl (record { low = omega (arith, ints, i.low, d); high = omega (arith, ints, z.high) })
quotient_stays t x (negsuc m) i = inr (omega (arith, ints))

pub quotient_member : (t : IntType) (x y : ℤ) → InRange t x → pos 1 ≤ℤ y → IsMember (values_of t) (int_div x y)
quotient_member t x y i h = elim (quotient_stays t x y i) [ inl v ↦ value_member t (int_div x y) v | inr n ↦ absurd (omega (arith, ints, h, n)) ]

-- the quotients at the ends lie in each interval that has each of them
pub quotients_in : (a b k : Interval) → ((x y : ℤ) → IsMember a x → pos 1 ≤ℤ y → IsMember k (int_div x y)) → IsInhabited a → pos 1 ≤ℤ b.high → IsWithin (quotients_at_ends a b) k
quotients_in a b k has i h =
    let al : IsMember a a.low = record { above = omega (arith, ints); below = i } in
    let ah : IsMember a a.high = record { above = i; below = omega (arith, ints) } in
    let m : pos 1 ≤ℤ int_max b.low (pos 1) = omega (arith, ints, clamps) in
    hull_least (between (int_div a.low (int_max b.low (pos 1))) (int_div a.low b.high)) (between (int_div a.high (int_max b.low (pos 1))) (int_div a.high b.high)) k
    (between_least _ _ k (has a.low _ al m) (has a.low _ al h)) (between_least _ _ k (has a.high _ ah m) (has a.high _ ah h))

pub quotients_inhabited : (a b : Interval) → IsInhabited (quotients_at_ends a b)
quotients_inhabited a b = four (int_div a.low (int_max b.low (pos 1))) (int_div a.low b.high) (int_div a.high (int_max b.low (pos 1))) (int_div a.high b.high)

-- what has a number and lies in both lies in what both have
pub meet_around : (r i k : Interval) → IsInhabited r → IsWithin r i → IsWithin r k → IsSomeAnd (meet_of i k) (λ s. IsWithin r s)
meet_around r i k o w v =
    subst (λ p. IsSomeAnd p (λ s. IsWithin r s))
    (sym (ap (λ (b : Flag). if b then Some (met i k) else None) (le_true (met i k).low (met i k).high (omega (arith, ints, clamps, o, w.from_low, w.to_high, v.from_low, v.to_high)))))
    (record { from_low = omega (arith, ints, clamps, w.from_low, v.from_low); to_high = omega (arith, ints, clamps, w.to_high, v.to_high) })

pub up_to_grows : (a c : Interval) → IsWithin a c → IsWithin (up_to_magnitude a) (up_to_magnitude c)
up_to_grows a c w = let m = magnitude_grows a c w in record { from_low = negated (magnitude a) (magnitude c) m; to_high = m }
  where
    negated : (m n : ℤ) → m ≤ℤ n → (pos 0 -ℤ n) ≤ℤ (pos 0 -ℤ m)
    negated m n h = omega (arith, ints, h)

pub quotients_grow : (t : IntType) (a b c d : Interval) → IsInhabited a → IsInhabited b → IsWithin a c → IsWithin b d → IsWithin c (values_of t) → IsWithinRow (quotients t a b) (quotients t c d)
unfolding quotients
quotients_grow t a b c d i j w v u = by_tests (int_lt b.low (pos 0)) (int_lt d.low (pos 0)) (int_le b.high (pos 0)) (int_le d.high (pos 0)) refl refl refl refl
  where
    in_type : (x : ℤ) → IsMember a x → InRange t x
    in_type x m = record { low = omega (arith, ints, m.above, w.from_low, u.from_low); high = omega (arith, ints, m.below, w.to_high, u.to_high) }

    by_tests : (n m o p : Flag) → int_lt b.low (pos 0) ≡ n → int_lt d.low (pos 0) ≡ m → int_le b.high (pos 0) ≡ o → int_le d.high (pos 0) ≡ p
        → IsWithinRow (if n then clipped t (up_to_magnitude a) else (if o then None else Some (quotients_at_ends a b)))
        (if m then clipped t (up_to_magnitude c) else (if p then None else Some (quotients_at_ends c d)))
    by_tests true true o p n m e f = meet_grows (up_to_magnitude a) (up_to_magnitude c) (values_of t) (up_to_grows a c w)
    by_tests true false o p n m e f = let l = of_lt b.low (pos 0) n in let g = of_not_lt d.low (pos 0) m in absurd (omega (arith, ints, l, g, v.from_low))
    by_tests false m true p n k e f = tt
    by_tests false true false p n m e f =
        let high = of_not_le b.high (pos 0) e in
        let one : pos 1 ≤ℤ b.high = omega (arith, ints, high) in
        let own = quotients_in a b (up_to_magnitude a) (λ x y q h. magnitudes_have a x y q) i one in
        let wide = up_to_grows a c w in
        meet_around (quotients_at_ends a b) (up_to_magnitude c) (values_of t) (quotients_inhabited a b)
        (through (quotients_at_ends a b) (up_to_magnitude a) (up_to_magnitude c) own wide)
        (quotients_in a b (values_of t) (λ x y q h. quotient_member t x y (in_type x q) h) i one)
    by_tests false false false true n m e f = let high = of_not_le b.high (pos 0) e in let l = of_le d.high (pos 0) f in absurd (omega (arith, ints, high, l, v.to_high))
    by_tests false false false false n m e f =
        let high = of_not_le b.high (pos 0) e in
        ends_grow int_div Positive a (from_to (int_max b.low (pos 1)) b.high) c (from_to (int_max d.low (pos 1)) d.high) quotients_monotone
        (omega (arith, ints, clamps)) i (omega (arith, ints, clamps, high, j)) w (record { from_low = omega (arith, ints, clamps, v.from_low); to_high = v.to_high })

-- ---- remainders
pub remainders_grow : (a b c d : Interval) → IsWithin a c → IsWithin b d → IsWithinRow (remainders a b) (remainders c d)
unfolding remainders
remainders_grow a b c d w v = by_tests (int_le (magnitude b) (pos 0)) (int_le (magnitude d) (pos 0)) refl refl
  where
    grows : magnitude b ≤ℤ magnitude d
    grows = magnitude_grows b d v

    rests_grow : (m n : ℤ) → m ≤ℤ n → IsWithin (rests a m) (rests c n)
    rests_grow m n h = record { from_low = omega (arith, ints, clamps, h, w.from_low); to_high = omega (arith, ints, clamps, h, w.to_high) }

    by_tests : (o p : Flag) → int_le (magnitude b) (pos 0) ≡ o → int_le (magnitude d) (pos 0) ≡ p
        → IsWithinRow (if o then None else Some (rests a (magnitude b))) (if p then None else Some (rests c (magnitude d)))
    by_tests true p e f = tt
    by_tests false true e f = let n = of_not_le (magnitude b) (pos 0) e in let l = of_le (magnitude d) (pos 0) f in absurd (omega (arith, ints, n, l, grows))
    by_tests false false e f = rests_grow (magnitude b) (magnitude d) grows

-- ---- shifts
-- what two intervals have in common, where they have something
pub inhabited_gives : (i r : Interval) → inhabited_of i ≡ Some r → (r ≡ i) × IsInhabited r
inhabited_gives i r e = by_test (int_le i.low i.high) refl e
  where
    by_test : (b : Flag) → int_le i.low i.high ≡ b → (if b then Some i else None) ≡ Some r → (r ≡ i) × IsInhabited r
    by_test true f e = let same : i ≡ r = cc in (sym same, subst IsInhabited same (of_le i.low i.high f))
    by_test false f e = absurd cc

map_grows : (f g : Interval → Interval) (o p : Option Interval) → ((i j : Interval) → o ≡ Some i → p ≡ Some j → IsWithin i j → IsWithin (f i) (g j))
    → IsWithinRow o p → IsWithinRow (option_map f o) (option_map g p)
map_grows f g None p h w = tt
map_grows f g (Some i) None h w = w
map_grows f g (Some i) (Some j) h w = h i j refl refl w

then_grows : (f g : Interval → Option Interval) (o p : Option Interval) → ((i j : Interval) → o ≡ Some i → p ≡ Some j → IsWithin i j → IsWithinRow (f i) (g j))
    → IsWithinRow o p → IsWithinRow (option_and_then f o) (option_and_then g p)
then_grows f g None p h w = tt
then_grows f g (Some i) None h w = absurd w
then_grows f g (Some i) (Some j) h w = h i j refl refl w

pub counts_natural : (t : IntType) (b r : Interval) → shift_counts t b ≡ Some r → (pos 0 ≤ℤ r.low) × IsInhabited r
counts_natural t b r e =
    let g = inhabited_gives (met b (from_to (pos 0) (pos (width_of (promoted t) - 1)))) r e in
    (subst (λ (s : Interval). pos 0 ≤ℤ s.low) (sym g.0) (omega (arith, ints, clamps)), g.1)

pub shifts_right_grow : (t : IntType) (a b c d : Interval) → IsInhabited a → IsWithin a c → IsWithin b d → IsWithinRow (shifts_right t a b) (shifts_right t c d)
unfolding shifts_right
shifts_right_grow t a b c d i w v =
    map_grows (at_ends halved a) (at_ends halved c) (shift_counts t b) (shift_counts t d)
    (λ n m e f h. let k = counts_natural t b n e in let l = counts_natural t d m f in ends_grow halved Natural a n c m halves_monotone l.0 i k.1 w h)
    (meet_grows b d (from_to (pos 0) (pos (width_of (promoted t) - 1))) v)

pub natural_gives : (a r : Interval) → not_negative a ≡ Some r → (pos 0 ≤ℤ r.low) × IsInhabited r
natural_gives a r e =
    let g = inhabited_gives (from_to (int_max a.low (pos 0)) a.high) r e in
    (subst (λ (s : Interval). pos 0 ≤ℤ s.low) (sym g.0) (omega (arith, ints, clamps)), g.1)

pub shifted_inhabited : (n a : Interval) → pos 0 ≤ℤ n.low → IsInhabited n → pos 0 ≤ℤ a.low → IsInhabited a → IsInhabited (shifted_by n a)
shifted_inhabited n a p i q j = doubled_le a.low a.high n.low n.high q j p i

shifted_grows : (n a m c : Interval) → pos 0 ≤ℤ m.low → IsInhabited n → pos 0 ≤ℤ c.low → IsInhabited a → IsWithin n m → IsWithin a c → IsWithin (shifted_by n a) (shifted_by m c)
shifted_grows n a m c p i q j w v = record {
  from_low = doubled_le c.low a.low m.low n.low q v.from_low p w.from_low;
  to_high = doubled_le a.high c.high n.high m.high (omega (arith, ints, q, v.from_low, j)) v.to_high (omega (arith, ints, p, w.from_low, i)) w.to_high;
}

pub shifts_left_grow : (t : IntType) (a b c d : Interval) → IsWithin a c → IsWithin b d → IsWithinRow (shifts_left t a b) (shifts_left t c d)
unfolding shifts_left
shifts_left_grow t a b c d w v =
    then_grows _ _ (shift_counts t b) (shift_counts t d)
    (λ n m e f h. let k = counts_natural t b n e in let l = counts_natural t d m f in
    then_grows _ _ (not_negative a) (not_negative c)
    (λ x y g o u. let p = natural_gives a x g in let q = natural_gives c y o in
    fitted_grows t (shifted_by n x) (shifted_by m y) (shifted_inhabited n x k.0 k.1 p.0 p.1) (shifted_grows n x m y l.0 k.1 q.0 p.1 h u))
    (not_negative_grows a c w))
    (meet_grows b d (from_to (pos 0) (pos (width_of (promoted t) - 1))) v)
