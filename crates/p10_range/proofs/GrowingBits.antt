-- Wider operands have wider rows: bits, tests and conversions.
use Rattle.std.proofs.Common.{◌≡◌, ℕ, ◌-◌, ◌^◌, ◌<◌, ◌≤◌, true, false, Bool as Flag, ap, ◌∙◌, arith, ℤ, pos, negsuc, ◌≤ℤ◌, refl}
use Rattle.std.proofs.lemmas.Int.{ints, clamps}
use Rattle.std.proofs.lemmas.Nat.{pow_pos}
use Rattle.std.proofs.Math.Nat.{pow-le-pow_right}
use Rattle.std.specs.Prelude.{◌&&◌, ◌||◌, if◌then◌else◌}
use Rattle.std.specs.Int.{int_min, int_max}
use Rattle.p10_int.specs.declared.types.IntType.{IntType}
use Rattle.p10_int.specs.declared.types.IntType.TheVariants.{Bool, Char, SChar, UChar, Short, UShort, Int, UInt, Long, ULong, LLong, ULLong}
use Rattle.p10_int.specs.declared.operators.BinOp.TheVariants.{Add, Sub, Mul, Div, Rem, Shl, Shr, And, Or, Xor, Lt, Gt, Le, Ge, Eq, Ne}
use Rattle.p10_int.specs.declared.operators.UnOp.TheVariants.{Plus, Neg, Not, Com}
use Rattle.p10_int.specs.Types.{least_of, greatest_of}
use Rattle.p10_int.proofs.Conversions.{zero_in}
use Rattle.p10_range.specs.Ranges.{Interval, from_to, IsInhabited, IsWithin}
use Rattle.p10_range.specs.private.Small.{IsSmall}
use Rattle.p10_range.specs.Rows.{values_of, sums, differences, products, negatives, has_no_negative, conjunctions, disjunctions, binary_digits, up_to_digits, complements, tested, can_be_less, can_be_at_most, can_be_equal, can_differ, only_zero}
use Rattle.p10_range.specs.Laws.{RowsAreMonotone, UnaryRowsAreMonotone, ConversionRowsAreMonotone}
use Rattle.p10_range.proofs.Small.{small_in}
use Rattle.p10_range.proofs.Signs.{le_true, lt_true, of_le, of_not_le, of_lt, of_not_lt}
use Rattle.p10_range.proofs.Digits.{below_power, digits_least}
use Rattle.p10_range.proofs.HoldingBits.{greatest_power}
use Rattle.p10_range.proofs.Growing.{within_itself, exact_grows, fitted_grows, sums_grow, differences_grow, negatives_grow, products_grow, products_inhabited, quotients_grow, remainders_grow, shifts_left_grow, shifts_right_grow}

-- ---- bits
pub zero_below : (t : IntType) → least_of t ≤ℤ pos 0
zero_below t = (zero_in t).low

pub conjunctions_grow : (t : IntType) (a b c d : Interval) → IsWithin a c → IsWithin b d → IsWithin c (values_of t) → IsWithin d (values_of t) → IsWithin (conjunctions t a b) (conjunctions t c d)
unfolding conjunctions
conjunctions_grow t a b c d w v u y = by_signs (has_no_negative a) (has_no_negative b) (has_no_negative c) (has_no_negative d) refl refl refl refl
  where
    z : least_of t ≤ℤ pos 0
    z = zero_below t

    left : has_no_negative a ≡ false → has_no_negative c ≡ true → ⊥
    left e f = let n = of_not_le (pos 0) a.low e in let l = of_le (pos 0) c.low f in omega (arith, ints, n, l, w.from_low)

    right : has_no_negative b ≡ false → has_no_negative d ≡ true → ⊥
    right e f = let n = of_not_le (pos 0) b.low e in let l = of_le (pos 0) d.low f in omega (arith, ints, n, l, v.from_low)

    by_signs : (e f g h : Flag) → has_no_negative a ≡ e → has_no_negative b ≡ f → has_no_negative c ≡ g → has_no_negative d ≡ h
        → IsWithin (if e then from_to (pos 0) (if f then int_min a.high b.high else a.high) else (if f then from_to (pos 0) b.high else values_of t))
        (if g then from_to (pos 0) (if h then int_min c.high d.high else c.high) else (if h then from_to (pos 0) d.high else values_of t))
    by_signs true true true true p q r s = record { from_low = omega (arith, ints); to_high = omega (arith, ints, clamps, w.to_high, v.to_high) }
    by_signs true true true false p q r s = record { from_low = omega (arith, ints); to_high = omega (arith, ints, clamps, w.to_high) }
    by_signs true true false true p q r s = record { from_low = omega (arith, ints); to_high = omega (arith, ints, clamps, v.to_high) }
    by_signs true true false false p q r s = record { from_low = z; to_high = omega (arith, ints, clamps, w.to_high, u.to_high) }
    by_signs true false true false p q r s = record { from_low = omega (arith, ints); to_high = w.to_high }
    by_signs true false false false p q r s = record { from_low = z; to_high = omega (arith, ints, w.to_high, u.to_high) }
    by_signs true false g true p q r s = absurd (right q s)
    by_signs false f true h p q r s = absurd (left p r)
    by_signs false true false true p q r s = record { from_low = omega (arith, ints); to_high = v.to_high }
    by_signs false true false false p q r s = record { from_low = z; to_high = omega (arith, ints, v.to_high, y.to_high) }
    by_signs false false false true p q r s = absurd (right q s)
    by_signs false false false false p q r s = within_itself (values_of t)

digits_grow : (n m : ℕ) → n ≤ m → m < 2 ^ 64 → binary_digits (pos n) ≤ binary_digits (pos m)
digits_grow n m h l = let w = below_power m l in digits_least n (binary_digits (pos m)) (omega (arith, h, w))

pub up_to_digits_grow : (x y : ℤ) → pos 0 ≤ℤ x → x ≤ℤ y → y ≤ℤ pos (2 ^ 64 - 1) → IsWithin (up_to_digits x) (up_to_digits y)
up_to_digits_grow (pos n) (pos m) z h l =
    let d = digits_grow n m (omega (arith, ints, h)) (omega (arith, ints, l)) in
    let p = pow-le-pow_right {n = 2} (omega arith) {i = binary_digits (pos n)} {j = binary_digits (pos m)} d in
    let q = pow_pos (binary_digits (pos n)) in
    record { from_low = omega (arith, ints); to_high = omega (arith, ints, p, q) }
up_to_digits_grow (negsuc n) y z h l = absurd (omega (arith, ints, z))
up_to_digits_grow (pos n) (negsuc m) z h l = absurd (omega (arith, ints, h))

pub digits_of_type : (t : IntType) (x : ℤ) → pos 0 ≤ℤ x → x ≤ℤ greatest_of t → x ≤ℤ pos (2 ^ 64 - 1) → IsWithin (up_to_digits x) (values_of t)
digits_of_type t (pos n) z h l =
    let g = greatest_power t in
    let w = pow_pos g.0 in
    let d = digits_least n g.0 (omega (arith, ints, g.1, h, w)) in
    let p = pow-le-pow_right {n = 2} (omega arith) {i = binary_digits (pos n)} {j = g.0} d in
    let q = pow_pos (binary_digits (pos n)) in
    record { from_low = zero_below t; to_high = omega (arith, ints, g.1, p, q) }
digits_of_type t (negsuc n) z h l = absurd (omega (arith, ints, z))

pub disjunctions_grow : (t : IntType) (a b c d : Interval) → IsInhabited a → IsInhabited b → IsWithin a c → IsWithin b d → IsWithin c (values_of t) → IsWithin d (values_of t) → IsWithin (disjunctions t a b) (disjunctions t c d)
unfolding disjunctions
disjunctions_grow t a b c d i j w v u y = by_signs (has_no_negative a) (has_no_negative b) (has_no_negative c) (has_no_negative d) refl refl refl refl
  where
    small_c : IsSmall c
    small_c = small_in t c u

    small_d : IsSmall d
    small_d = small_in t d y

    left : has_no_negative a ≡ false → has_no_negative c ≡ true → ⊥
    left e f = let n = of_not_le (pos 0) a.low e in let l = of_le (pos 0) c.low f in omega (arith, ints, n, l, w.from_low)

    right : has_no_negative b ≡ false → has_no_negative d ≡ true → ⊥
    right e f = let n = of_not_le (pos 0) b.low e in let l = of_le (pos 0) d.low f in omega (arith, ints, n, l, v.from_low)

    wide : has_no_negative a ≡ true → has_no_negative b ≡ true → IsWithin (up_to_digits (int_max a.high b.high)) (values_of t)
    wide e f =
        let l = of_le (pos 0) a.low e in
        digits_of_type t (int_max a.high b.high) (omega (arith, ints, clamps, l, i)) (omega (arith, ints, clamps, w.to_high, v.to_high, u.to_high, y.to_high))
        (omega (arith, ints, clamps, w.to_high, v.to_high, small_c.small_high, small_d.small_high))

    by_signs : (e f g h : Flag) → has_no_negative a ≡ e → has_no_negative b ≡ f → has_no_negative c ≡ g → has_no_negative d ≡ h
        → IsWithin (if e && f then up_to_digits (int_max a.high b.high) else values_of t) (if g && h then up_to_digits (int_max c.high d.high) else values_of t)
    by_signs true true true true p q r s =
        let l = of_le (pos 0) a.low p in
        up_to_digits_grow (int_max a.high b.high) (int_max c.high d.high) (omega (arith, ints, clamps, l, i)) (omega (arith, ints, clamps, w.to_high, v.to_high))
        (omega (arith, ints, clamps, small_c.small_high, small_d.small_high))
    by_signs true true true false p q r s = wide p q
    by_signs true true false h p q r s = wide p q
    by_signs true false g true p q r s = absurd (right q s)
    by_signs true false true false p q r s = within_itself (values_of t)
    by_signs true false false false p q r s = within_itself (values_of t)
    by_signs false f true h p q r s = absurd (left p r)
    by_signs false f false h p q r s = within_itself (values_of t)

complements_grow : (t : IntType) (a c : Interval) → IsWithin a c → IsWithin (complements t a) (complements t c)
complements_grow t a c w = record { from_low = omega (arith, ints, w.to_high); to_high = omega (arith, ints, w.from_low) }

-- ---- tests
tested_grows : (i c j d : Flag) → (c ≡ false → i ≡ true) → (i ≡ true → j ≡ true) → (c ≡ true → d ≡ true) → IsWithin (tested i c) (tested j d)
tested_grows true true true true o p q = within_itself (tested true true)
tested_grows true true true false o p q = let e = q refl in absurd cc
tested_grows true c false d o p q = let e = p refl in absurd cc
tested_grows true false true true o p q = record { from_low = omega (arith, ints); to_high = omega (arith, ints) }
tested_grows true false true false o p q = within_itself (tested true false)
tested_grows false true true true o p q = record { from_low = omega (arith, ints); to_high = omega (arith, ints) }
tested_grows false true false true o p q = within_itself (tested false true)
tested_grows false true j false o p q = let e = q refl in absurd cc
tested_grows false false j d o p q = let e = o refl in absurd cc

can_less_grows : (a b c d : Interval) → IsWithin a c → IsWithin b d → can_be_less a b ≡ true → can_be_less c d ≡ true
can_less_grows a b c d w v e = let l = of_lt a.low b.high e in lt_true c.low d.high (omega (arith, ints, l, w.from_low, v.to_high))

can_at_most_grows : (a b c d : Interval) → IsWithin a c → IsWithin b d → can_be_at_most a b ≡ true → can_be_at_most c d ≡ true
can_at_most_grows a b c d w v e = let l = of_le a.low b.high e in le_true c.low d.high (omega (arith, ints, l, w.from_low, v.to_high))

and_grows : (e f g h : Flag) → (e ≡ true → g ≡ true) → (f ≡ true → h ≡ true) → e && f ≡ true → g && h ≡ true
and_grows true true g h p q r = rw (p refl, q refl) refl
and_grows true false g h p q r = absurd cc
and_grows false f g h p q r = absurd cc

or_grows : (e f g h : Flag) → (e ≡ true → g ≡ true) → (f ≡ true → h ≡ true) → e || f ≡ true → g || h ≡ true
or_grows true f g h p q r = rw (p refl) refl
or_grows false true true h p q r = refl
or_grows false true false h p q r = q refl
or_grows false false g h p q r = absurd cc

can_equal_grows : (a b c d : Interval) → IsWithin a c → IsWithin b d → can_be_equal a b ≡ true → can_be_equal c d ≡ true
can_equal_grows a b c d w v = and_grows _ _ _ _ (can_at_most_grows a b c d w v) (can_at_most_grows b a d c v w)

can_differ_grows : (a b c d : Interval) → IsWithin a c → IsWithin b d → can_differ a b ≡ true → can_differ c d ≡ true
can_differ_grows a b c d w v = or_grows _ _ _ _ (can_less_grows a b c d w v) (can_less_grows b a d c v w)

-- of a test and its contrary one can be
less_or_most : (a b : Interval) → IsInhabited a → IsInhabited b → can_be_at_most b a ≡ false → can_be_less a b ≡ true
less_or_most a b i j e = let n = of_not_le b.low a.high e in lt_true a.low b.high (omega (arith, ints, n, i, j))

most_or_less : (a b : Interval) → IsInhabited a → IsInhabited b → can_be_less b a ≡ false → can_be_at_most a b ≡ true
most_or_less a b i j e = let n = of_not_lt b.low a.high e in le_true a.low b.high (omega (arith, ints, n, i, j))

equal_or_other : (a b : Interval) → IsInhabited a → IsInhabited b → can_differ a b ≡ false → can_be_equal a b ≡ true
equal_or_other a b i j e = by_tests (can_be_less a b) (can_be_less b a) refl refl e
  where
    both : (c d : Flag) → c ≡ true → d ≡ true → c && d ≡ true
    both true true c d = refl
    both true false c d = absurd cc
    both false d c e = absurd cc

    by_tests : (c d : Flag) → can_be_less a b ≡ c → can_be_less b a ≡ d → c || d ≡ false → can_be_equal a b ≡ true
    by_tests false false c d e = both (can_be_at_most a b) (can_be_at_most b a) (most_or_less a b i j d) (most_or_less b a j i c)
    by_tests true d c e f = absurd cc
    by_tests false true c d e = absurd cc

other_or_equal : (a b : Interval) → IsInhabited a → IsInhabited b → can_be_equal a b ≡ false → can_differ a b ≡ true
other_or_equal a b i j e = by_tests (can_be_at_most a b) (can_be_at_most b a) refl refl e
  where
    right : (c : Flag) → c || true ≡ true
    right true = refl
    right false = refl

    by_tests : (c d : Flag) → can_be_at_most a b ≡ c → can_be_at_most b a ≡ d → c && d ≡ false → can_differ a b ≡ true
    by_tests false d c e f = let l = less_or_most b a j i c in ap (λ (x : Flag). can_be_less a b || x) l ∙ right (can_be_less a b)
    by_tests true false c e f = let l = less_or_most a b i j e in ap (λ (x : Flag). x || can_be_less b a) l
    by_tests true true c d e = absurd cc

zero_inhabited : IsInhabited only_zero
zero_inhabited = omega (arith, ints)

-- ---- the table
pub grown : RowsAreMonotone
grown Add t a b c d i j w v u y = fitted_grows t (sums a b) (sums c d) (omega (arith, ints, i, j)) (sums_grow a b c d w v)
grown Sub t a b c d i j w v u y = fitted_grows t (differences a b) (differences c d) (omega (arith, ints, i, j)) (differences_grow a b c d w v)
grown Mul t a b c d i j w v u y = fitted_grows t (products a b) (products c d) (products_inhabited a b) (products_grow a b c d i j w v)
grown Div t a b c d i j w v u y = quotients_grow t a b c d i j w v u
grown Rem t a b c d i j w v u y = remainders_grow a b c d w v
grown Shl t a b c d i j w v u y = shifts_left_grow t a b c d w v
grown Shr t a b c d i j w v u y = shifts_right_grow t a b c d i w v
grown And t a b c d i j w v u y = conjunctions_grow t a b c d w v u y
grown Or t a b c d i j w v u y = disjunctions_grow t a b c d i j w v u y
grown Xor t a b c d i j w v u y = disjunctions_grow t a b c d i j w v u y
grown Lt t a b c d i j w v u y = tested_grows _ _ _ _ (less_or_most a b i j) (can_less_grows a b c d w v) (can_at_most_grows b a d c v w)
grown Gt t a b c d i j w v u y = tested_grows _ _ _ _ (less_or_most b a j i) (can_less_grows b a d c v w) (can_at_most_grows a b c d w v)
grown Le t a b c d i j w v u y = tested_grows _ _ _ _ (most_or_less a b i j) (can_at_most_grows a b c d w v) (can_less_grows b a d c v w)
grown Ge t a b c d i j w v u y = tested_grows _ _ _ _ (most_or_less b a j i) (can_at_most_grows b a d c v w) (can_less_grows a b c d w v)
grown Eq t a b c d i j w v u y = tested_grows _ _ _ _ (equal_or_other a b i j) (can_equal_grows a b c d w v) (can_differ_grows a b c d w v)
grown Ne t a b c d i j w v u y = tested_grows _ _ _ _ (other_or_equal a b i j) (can_differ_grows a b c d w v) (can_equal_grows a b c d w v)

pub grown_unary : UnaryRowsAreMonotone
grown_unary Plus t a c i w u = w
grown_unary Neg t a c i w u = fitted_grows t (negatives a) (negatives c) (omega (arith, ints, i)) (negatives_grow a c w)
grown_unary Not t a c i w u =
    tested_grows _ _ _ _ (equal_or_other a only_zero i zero_inhabited) (can_equal_grows a only_zero c only_zero w (within_itself only_zero)) (can_differ_grows a only_zero c only_zero w (within_itself only_zero))
grown_unary Com t a c i w u = complements_grow t a c w

pub grown_conversion : ConversionRowsAreMonotone
grown_conversion Bool a c i w =
    tested_grows _ _ _ _ (other_or_equal a only_zero i zero_inhabited) (can_differ_grows a only_zero c only_zero w (within_itself only_zero)) (can_equal_grows a only_zero c only_zero w (within_itself only_zero))
grown_conversion Char a c i w = exact_grows Char a c i w
grown_conversion SChar a c i w = exact_grows SChar a c i w
grown_conversion UChar a c i w = exact_grows UChar a c i w
grown_conversion Short a c i w = exact_grows Short a c i w
grown_conversion UShort a c i w = exact_grows UShort a c i w
grown_conversion Int a c i w = exact_grows Int a c i w
grown_conversion UInt a c i w = exact_grows UInt a c i w
grown_conversion Long a c i w = exact_grows Long a c i w
grown_conversion ULong a c i w = exact_grows ULong a c i w
grown_conversion LLong a c i w = exact_grows LLong a c i w
grown_conversion ULLong a c i w = exact_grows ULLong a c i w
