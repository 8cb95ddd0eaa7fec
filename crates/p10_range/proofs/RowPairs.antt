-- Where any row is there, some pair of numbers has a result, except for the least value divided by -1.
use Rattle.std.proofs.Common.{◌≡◌, ◌-◌, ◌^◌, ◌<◌, true, false, Bool as Flag, ap, ◌∙◌, arith, ℤ, pos, neg_ℤ, ◌≤ℤ◌, ◌-ℤ◌, refl, Option, Some, None, Ok, Err, inl, lit<}
use Rattle.std.proofs.lemmas.Int.{ints, clamps}
use Rattle.std.specs.Prelude.{◌&&◌, if◌then◌else◌, unsigned_abs, int_lt}
use Rattle.std.specs.Option.{option_map, option_and_then}
use Rattle.std.specs.Int.{int_min, int_max}
use Rattle.p10_int.specs.declared.types.IntType.{IntType}
use Rattle.p10_int.specs.declared.types.IntType.TheVariants.{Bool, Char, SChar, UChar, Short, UShort, Int, UInt, Long, ULong, LLong, ULLong}
use Rattle.p10_int.specs.declared.operators.Stop.TheVariants.{U1, U3, U4}
use Rattle.p10_int.specs.declared.operators.BinOp.TheVariants.{Add, Sub, Mul, Div, Rem, Shl, Shr, And, Or, Xor, Lt, Gt, Le, Ge, Eq, Ne}
use Rattle.p10_int.specs.declared.operators.UnOp.TheVariants.{Plus, Neg, Not, Com}
use Rattle.p10_int.specs.Types.{width_of, promoted}
use Rattle.p10_int.specs.Conversion.{reduced}
use Rattle.p10_int.specs.Operators.{fitted, is_shift_count, shifted_left, shifted_right}
use Rattle.p10_int.proofs.Reduced.{fitted_unsigned}
use Rattle.p10_range.specs.Ranges.{Interval, from_to, IsInhabited, IsMember, not_negative}
use Rattle.p10_range.specs.Rows.{negatives, shift_counts, halved, doubled, shifted_by, shifts_left, shifts_right, at_ends}
use Rattle.p10_range.specs.Laws.{Goes, RowsHavePairs, UnaryRowsHaveNumbers}
use Rattle.p10_range.proofs.Signs.{le_true, lt_true, lt_false}
use Rattle.p10_range.proofs.Corners.{product_le}
use Rattle.p10_range.proofs.Holding.{met}
use Rattle.p10_range.proofs.Growing.{inhabited_gives}
use Rattle.p10_range.proofs.Typed.{if_some}
use Rattle.p10_range.proofs.Pairs.{fitted_goes, lowest, by_fit, least_product, sums_go, differences_go, products_go}
use Rattle.p10_range.proofs.DividingPairs.{quotients_go, remainders_go}

-- ---- shifts
has_width : (t : IntType) → 0 < width_of (promoted t)
has_width Bool = lit< tt
has_width Char = lit< tt
has_width SChar = lit< tt
has_width UChar = lit< tt
has_width Short = lit< tt
has_width UShort = lit< tt
has_width Int = lit< tt
has_width UInt = lit< tt
has_width Long = lit< tt
has_width ULong = lit< tt
has_width LLong = lit< tt
has_width ULLong = lit< tt

-- the least count by which a value may be shifted
record Count (t : IntType) (b n : Interval) : Type 0 where
  member : IsMember b n.low
  natural : pos 0 ≤ℤ n.low
  counts : is_shift_count t n.low ≡ true

count_of : (t : IntType) (b n : Interval) → shift_counts t b ≡ Some n → Count t b n
count_of t b n e =
    let all = from_to (pos 0) (pos (width_of (promoted t) - 1)) in
    let g = inhabited_gives (met b all) n e in
    let l : n.low ≡ int_max b.low (pos 0) = ap (λ (k : Interval). k.low) g.0 in
    let h : n.high ≡ int_min b.high (pos (width_of (promoted t) - 1)) = ap (λ (k : Interval). k.high) g.0 in
    let w = has_width t in
    record {
      member = record { above = omega (arith, ints, clamps, l); below = omega (arith, ints, clamps, l, h, g.1) };
      natural = omega (arith, ints, clamps, l);
      counts = both _ _ (le_true (pos 0) n.low (omega (arith, ints, clamps, l))) (lt_true n.low (pos (width_of (promoted t))) (omega (arith, ints, clamps, h, g.1, w)));
    }
  where
    both : (c d : Flag) → c ≡ true → d ≡ true → c && d ≡ true
    both true true c d = refl
    both true false c d = absurd cc
    both false d c e = absurd cc

map_gives : (f : Interval → Interval) (o : Option Interval) (r : Interval) → option_map f o ≡ Some r → (n : Interval) × (o ≡ Some n)
map_gives f None r e = absurd cc
map_gives f (Some n) r e = (n, refl)

then_gives : (f : Interval → Option Interval) (o : Option Interval) (r : Interval) → option_and_then f o ≡ Some r → (n : Interval) × (o ≡ Some n) × (f n ≡ Some r)
then_gives f None r e = absurd cc
then_gives f (Some n) r e = (n, refl, e)

shifts_right_go : (t : IntType) (a b r : Interval) → IsInhabited a → shifts_right t a b ≡ Some r → Goes Shr t a b
unfolding shifts_right shifted_right
shifts_right_go t a b r i e =
    let n = map_gives (at_ends halved a) (shift_counts t b) r e in
    let c = count_of t b n.0 n.1 in
    record {
      x = a.low;
      y = n.0.low;
      z = halved a.low n.0.low;
      left = lowest a i;
      right = c.member;
      result = ap (λ (k : Flag). if k then Ok (halved a.low n.0.low) else Err U3) c.counts;
    }

-- the least number that isn't negative
record Natural (a m : Interval) : Type 0 where
  of : IsMember a m.low
  natural : pos 0 ≤ℤ m.low

natural_of : (a m : Interval) → not_negative a ≡ Some m → Natural a m
natural_of a m e =
    let g = inhabited_gives (from_to (int_max a.low (pos 0)) a.high) m e in
    let l : m.low ≡ int_max a.low (pos 0) = ap (λ (k : Interval). k.low) g.0 in
    let h : m.high ≡ a.high = ap (λ (k : Interval). k.high) g.0 in
    record {
      of = record { above = omega (arith, ints, clamps, l); below = omega (arith, ints, clamps, l, h, g.1) };
      natural = omega (arith, ints, clamps, l);
    }

zero_doubled : (x n : ℤ) → pos 0 ≤ℤ x → pos 0 ≤ℤ doubled x n
zero_doubled (pos x) n h = omega (arith, ints)
zero_doubled x n h = product_le (pos 0) x (pos 0) (pos (2 ^ unsigned_abs n)) (omega (arith, ints)) h (omega (arith, ints)) (omega (arith, ints))

left_is : (t : IntType) (x n : ℤ) → is_shift_count t n ≡ true → pos 0 ≤ℤ x → shifted_left t x n ≡ fitted t U4 (doubled x n)
unfolding shifted_left
left_is t x n c h =
    ap (λ (k : Flag). if k then (if int_lt x (pos 0) then Err U4 else fitted t U4 (doubled x n)) else Err U3) c
    ∙ ap (λ (k : Flag). if k then Err U4 else fitted t U4 (doubled x n)) (lt_false x (pos 0) h)

shifts_left_go : (t : IntType) (a b r : Interval) → shifts_left t a b ≡ Some r → Goes Shl t a b
unfolding shifts_left
shifts_left_go t a b r e =
    let n = then_gives _ (shift_counts t b) r e in
    let m = then_gives _ (not_negative a) r n.2 in
    let c = count_of t b n.0 n.1 in
    let k = natural_of a m.0 m.1 in
    let is = left_is t m.0.low n.0.low c.counts k.natural in
    by_fit t (shifted_by n.0 m.0) r (Goes Shl t a b) m.2
    (λ w p v. record {
      x = m.0.low;
      y = n.0.low;
      z = doubled m.0.low n.0.low;
      left = k.of;
      right = c.member;
      result = is ∙ fitted_goes t U4 _ (least_product t w _ v p.above (zero_doubled m.0.low n.0.low k.natural));
    })
    (λ s. record { x = m.0.low; y = n.0.low; z = reduced t (doubled m.0.low n.0.low); left = k.of; right = c.member; result = is ∙ fitted_unsigned t U4 _ s })

-- ---- the table
pub paired : RowsHavePairs
paired Add t a b i j w v = if_some _ _ (λ r e. inl (sums_go t a b r i j e))
paired Sub t a b i j w v = if_some _ _ (λ r e. inl (differences_go t a b r i j e))
paired Mul t a b i j w v = if_some _ _ (λ r e. inl (products_go t a b r i j e))
paired Div t a b i j w v = if_some _ _ (λ r e. quotients_go t a b r i j w v e)
paired Rem t a b i j w v = if_some _ _ (λ r e. remainders_go t a b r i j w v e)
paired Shl t a b i j w v = if_some _ _ (λ r e. inl (shifts_left_go t a b r e))
paired Shr t a b i j w v = if_some _ _ (λ r e. inl (shifts_right_go t a b r i e))
paired And t a b i j w v = inl (record { x = a.low; y = b.low; z = _; left = lowest a i; right = lowest b j; result = refl })
paired Or t a b i j w v = inl (record { x = a.low; y = b.low; z = _; left = lowest a i; right = lowest b j; result = refl })
paired Xor t a b i j w v = inl (record { x = a.low; y = b.low; z = _; left = lowest a i; right = lowest b j; result = refl })
paired Lt t a b i j w v = inl (record { x = a.low; y = b.low; z = _; left = lowest a i; right = lowest b j; result = refl })
paired Gt t a b i j w v = inl (record { x = a.low; y = b.low; z = _; left = lowest a i; right = lowest b j; result = refl })
paired Le t a b i j w v = inl (record { x = a.low; y = b.low; z = _; left = lowest a i; right = lowest b j; result = refl })
paired Ge t a b i j w v = inl (record { x = a.low; y = b.low; z = _; left = lowest a i; right = lowest b j; result = refl })
paired Eq t a b i j w v = inl (record { x = a.low; y = b.low; z = _; left = lowest a i; right = lowest b j; result = refl })
paired Ne t a b i j w v = inl (record { x = a.low; y = b.low; z = _; left = lowest a i; right = lowest b j; result = refl })

back : (w : ℤ) → neg_ℤ (pos 0 -ℤ w) ≡ w
back w = omega (arith, ints)

pub paired_unary : UnaryRowsHaveNumbers
paired_unary Plus t a i w = (a.low, a.low, lowest a i, refl)
paired_unary Neg t a i w =
    if_some _ _
    (λ r e. by_fit t (negatives a) r _ e
    (λ w m v. (pos 0 -ℤ w, w, record { above = omega (arith, ints, m.below); below = omega (arith, ints, m.above) }, ap (fitted t U1) (back w) ∙ fitted_goes t U1 w v))
    (λ s. (a.low, reduced t (neg_ℤ a.low), lowest a i, fitted_unsigned t U1 _ s)))
paired_unary Not t a i w = (a.low, _, lowest a i, refl)
paired_unary Com t a i w = (a.low, _, lowest a i, refl)
