-- Operators that stop at no ends of the ranges of their operands stop at none of their numbers.
use Rattle.std.proofs.Common.{◌≡◌, true, false, Bool as Flag, sym, ◌∙◌, ap, arith, ℤ, pos, neg_ℤ, ◌≤ℤ◌, ◌<ℤ◌, refl, subst, Ok, Err}
use Rattle.std.proofs.lemmas.Int.{ints}
use Rattle.std.proofs.lemmas.Bool.{or_parts, and_parts}
use Rattle.std.specs.Prelude.{◌&&◌, if◌then◌else◌, is_err, int_le, int_lt}
use Rattle.std.specs.Result.{IsOk}
use Rattle.p10_int.specs.declared.types.IntType.{IntType}
use Rattle.p10_int.specs.declared.operators.Stop.TheVariants.{U1, U3, U4}
use Rattle.p10_int.specs.declared.operators.BinOp.TheVariants.{Add, Sub, Mul, Div, Rem, Shl, Shr, And, Or, Xor, Lt, Gt, Le, Ge, Eq, Ne}
use Rattle.p10_int.specs.declared.operators.UnOp.TheVariants.{Plus, Neg, Not, Com}
use Rattle.p10_int.specs.Types.{width_of, promoted}
use Rattle.p10_int.specs.Operators.{fitted, is_shift_count, shifted_left, shifted_right}
use Rattle.p10_range.specs.Ranges.{Interval, IsMember}
use Rattle.p10_range.specs.Rows.{doubled, halved}
use Rattle.p10_range.proofs.Signs.{le_true, lt_true, lt_false, of_le, of_lt, of_not_lt}
use Rattle.p10_range.proofs.Corners.{doubled_le}
use Rattle.p10_clean.specs.Operations.{overflow_at, negation_at, shift_at}
use Rattle.p10_clean_soundness.specs.Operators.{NoneStops, NoUnaryStops}
use Rattle.p10_clean_soundness.proofs.Fitting.{Fits, fits_where_ok, fitted_ok, AtNoEnds, at_no_ends, between_fits, sum_fits, difference_fits, product_fits}
use Rattle.p10_clean_soundness.proofs.Quotients.{quotient_ok, remainder_ok}

-- ---- shifts

-- what is said of a count
record IsCount (t : IntType) (n : ℤ) : Type 0 where
  natural : pos 0 ≤ℤ n
  below : n <ℤ pos (width_of (promoted t))

counted : (t : IntType) (n : ℤ) → is_shift_count t n ≡ true → IsCount t n
counted t n e =
    let parts = and_parts (int_le (pos 0) n) (int_lt n (pos (width_of (promoted t)))) e in
    record { natural = of_le (pos 0) n parts.0; below = of_lt n (pos (width_of (promoted t))) parts.1 }

-- a count between two counts is one
count_between : (t : IntType) (l n h : ℤ) → IsCount t l → IsCount t h → l ≤ℤ n → n ≤ℤ h → is_shift_count t n ≡ true
count_between t l n h c d p q =
    ap (λ (b : Flag). b && int_lt n (pos (width_of (promoted t)))) (le_true (pos 0) n (omega (arith, ints, c.natural, p)))
    ∙ lt_true n (pos (width_of (promoted t))) (omega (arith, ints, d.below, q))

-- what a shift to the left that doesn't stop says
record IsShifted (t : IntType) (x n : ℤ) : Type 0 where
  count : IsCount t n
  natural : pos 0 ≤ℤ x
  fits : Fits t (doubled x n)

shifted : (t : IntType) (x n : ℤ) → is_err (shifted_left t x n) ≡ false → IsShifted t x n
unfolding shifted_left
shifted t x n e = by_count (is_shift_count t n) refl e
  where
    by_sign : (s : Flag) → is_shift_count t n ≡ true → int_lt x (pos 0) ≡ s → is_err (if s then Err U4 else fitted t U4 (doubled x n)) ≡ false → IsShifted t x n
    by_sign true c s e = absurd cc
    by_sign false c s e = record { count = counted t n c; natural = of_not_lt x (pos 0) s; fits = fits_where_ok t U4 (doubled x n) e }

    by_count : (c : Flag) → is_shift_count t n ≡ c → is_err (if c then (if int_lt x (pos 0) then Err U4 else fitted t U4 (doubled x n)) else Err U3) ≡ false → IsShifted t x n
    by_count true c e = by_sign (int_lt x (pos 0)) c refl e
    by_count false c e = absurd cc

shifted_ok : (t : IntType) (x n : ℤ) → is_shift_count t n ≡ true → pos 0 ≤ℤ x → Fits t (doubled x n) → IsOk (shifted_left t x n)
unfolding shifted_left
shifted_ok t x n count natural fits = rw (count, lt_false x (pos 0) natural) (fitted_ok t U4 (doubled x n) fits)

above_zero : (l z : ℤ) → pos 0 ≤ℤ l → l ≤ℤ z → pos 0 ≤ℤ z
above_zero l z p h = omega (arith, ints, p, h)

left_ok : (t : IntType) (a b : Interval) (x n : ℤ) → AtNoEnds (shift_at Shl t) a b → IsMember a x → IsMember b n → IsOk (shifted_left t x n)
left_ok t a b x n e p q =
    let low = shifted t a.low b.low (or_parts _ _ e.lows).1 in
    let high = shifted t a.high b.high (or_parts _ _ e.highs).1 in
    let natural = above_zero a.low x low.natural p.above in
    shifted_ok t x n (count_between t b.low n b.high low.count high.count q.above q.below) natural
    (between_fits t (doubled a.low b.low) (doubled a.high b.high) (doubled x n) low.fits high.fits
    (doubled_le a.low x b.low n low.natural p.above low.count.natural q.above)
    (doubled_le x a.high n b.high natural p.below (above_zero b.low n low.count.natural q.above) q.below))

right_count : (t : IntType) (x n : ℤ) → is_err (shifted_right t x n) ≡ false → IsCount t n
unfolding shifted_right
right_count t x n e = by_count (is_shift_count t n) refl e
  where
    by_count : (c : Flag) → is_shift_count t n ≡ c → is_err (if c then Ok (halved x n) else Err U3) ≡ false → IsCount t n
    by_count true c e = counted t n c
    by_count false c e = absurd cc

right_ok : (t : IntType) (a b : Interval) (x n : ℤ) → AtNoEnds (shift_at Shr t) a b → IsMember b n → IsOk (shifted_right t x n)
unfolding shifted_right
right_ok t a b x n e q =
    let count : is_shift_count t n ≡ true = count_between t b.low n b.high (right_count t a.low b.low (or_parts _ _ e.lows).1) (right_count t a.high b.high (or_parts _ _ e.highs).1) q.above q.below in
    subst (λ (c : Flag). IsOk (if c then Ok (halved x n) else Err U3)) (sym count) refl

-- ---- all operators
pub none_stops : NoneStops
none_stops Add t a b o d s x y p q i =
    let e = at_no_ends (overflow_at Add t) a b o in
    fitted_ok t U1 _ (sum_fits t a b x y p q (fits_where_ok t U1 _ (or_parts _ _ e.lows).1) (fits_where_ok t U1 _ (or_parts _ _ e.highs).1))
none_stops Sub t a b o d s x y p q i =
    let e = at_no_ends (overflow_at Sub t) a b o in
    fitted_ok t U1 _ (difference_fits t a b x y p q (fits_where_ok t U1 _ (or_parts _ _ e.low_high).1) (fits_where_ok t U1 _ (or_parts _ _ e.high_low).1))
none_stops Mul t a b o d s x y p q i =
    let e = at_no_ends (overflow_at Mul t) a b o in
    fitted_ok t U1 _ (product_fits t a b x y p q (fits_where_ok t U1 _ (or_parts _ _ e.lows).1) (fits_where_ok t U1 _ (or_parts _ _ e.low_high).1)
    (fits_where_ok t U1 _ (or_parts _ _ e.high_low).1) (fits_where_ok t U1 _ (or_parts _ _ e.highs).1))
none_stops Div t a b o d s x y p q i = quotient_ok t a b x y d p q i
none_stops Rem t a b o d s x y p q i = remainder_ok t x y (quotient_ok t a b x y d p q i)
none_stops Shl t a b o d s x y p q i = left_ok t a b x y (at_no_ends (shift_at Shl t) a b s) p q
none_stops Shr t a b o d s x y p q i = right_ok t a b x y (at_no_ends (shift_at Shr t) a b s) q
none_stops And t a b o d s x y p q i = refl
none_stops Or t a b o d s x y p q i = refl
none_stops Xor t a b o d s x y p q i = refl
none_stops Lt t a b o d s x y p q i = refl
none_stops Gt t a b o d s x y p q i = refl
none_stops Le t a b o d s x y p q i = refl
none_stops Ge t a b o d s x y p q i = refl
none_stops Eq t a b o d s x y p q i = refl
none_stops Ne t a b o d s x y p q i = refl

pub no_unary_stops : NoUnaryStops
no_unary_stops Plus t a e x p = refl
no_unary_stops Neg t a e x p =
    let ends = or_parts (negation_at Neg t a.low) (negation_at Neg t a.high) e in
    fitted_ok t U1 _ (between_fits t (neg_ℤ a.high) (neg_ℤ a.low) (neg_ℤ x) (fits_where_ok t U1 _ (or_parts _ _ ends.1).1) (fits_where_ok t U1 _ (or_parts _ _ ends.0).1)
    (omega (arith, ints, p.below)) (omega (arith, ints, p.above)))
no_unary_stops Not t a e x p = refl
no_unary_stops Com t a e x p = refl
