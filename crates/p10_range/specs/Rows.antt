-- What each operator of C gives on intervals: the rows of a table. `None` is an interval of no number: nothing.
use Rattle.std.specs.Prelude.{ℕ, zero, suc, nat_lt, ◌-◌, ◌^◌, ◌&&◌, ◌||◌, if◌then◌else◌, Bool as Flag, ℤ, pos, ◌+ℤ◌, ◌-ℤ◌, ◌*ℤ◌, int_le, int_lt, int_div, unsigned_abs, Option, Some, None}
use Rattle.std.specs.Option.{option_map, option_and_then}
use Rattle.std.specs.Int.{int_min, int_max, int_div_euclid}
use Rattle.p10_int.specs.declared.types.IntType.{IntType}
use Rattle.p10_int.specs.declared.types.IntType.TheVariants.{Bool}
use Rattle.p10_int.specs.declared.operators.BinOp.{BinOp}
use Rattle.p10_int.specs.declared.operators.BinOp.TheVariants.{Add, Sub, Mul, Div, Rem, Shl, Shr, And, Or, Xor, Lt, Gt, Le, Ge, Eq, Ne}
use Rattle.p10_int.specs.declared.operators.UnOp.{UnOp}
use Rattle.p10_int.specs.declared.operators.UnOp.TheVariants.{Plus, Neg, Not, Com}
use Rattle.p10_int.specs.Types.{is_signed_of, least_of, greatest_of, width_of, promoted}
use Rattle.p10_range.specs.Ranges.{Interval, from_to, is_within, hull_of, meet_of, between, not_negative}

-- ---- what a type makes of an exact interval

-- the values of a type
abbrev pub values_of : IntType → Interval
values_of t = from_to (least_of t) (greatest_of t)

-- clipped: the part that the type has
abbrev pub clipped : IntType → Interval → Option Interval
clipped t r = meet_of r (values_of t)

-- exact or all: the interval where the type has all of it, else all values of the type
abbrev pub exact_or_all : IntType → Interval → Interval
exact_or_all t r = if is_within r (values_of t) then r else values_of t

-- a signed type clips, since what it lacks stops (C99 6.5p5); an unsigned one reduces, so it is exact or all (C99 6.2.5p9)
unfoldable pub fitted_interval : IntType → Interval → Option Interval
fitted_interval t r = if is_signed_of t then clipped t r else Some (exact_or_all t r)

-- ---- ends

-- the least interval that has four numbers
abbrev pub spread : ℤ → ℤ → ℤ → ℤ → Interval
spread p q r s = hull_of (between p q) (between r s)

-- the least interval that has what f gives at the ends of two intervals
abbrev pub at_ends : (ℤ → ℤ → ℤ) → Interval → Interval → Interval
at_ends f a b = spread (f a.low b.low) (f a.low b.high) (f a.high b.low) (f a.high b.high)

-- the greatest magnitude of the numbers of an interval
abbrev pub magnitude : Interval → ℤ
magnitude r = int_max r.high (pos 0 -ℤ r.low)

-- ---- arithmetic (C99 6.5.5, 6.5.6, 6.5.3.3)

abbrev pub sums : Interval → Interval → Interval
sums a b = from_to (a.low +ℤ b.low) (a.high +ℤ b.high)

abbrev pub differences : Interval → Interval → Interval
differences a b = from_to (a.low -ℤ b.high) (a.high -ℤ b.low)

abbrev pub products : Interval → Interval → Interval
products a b = at_ends (λ x y. x *ℤ y) a b

abbrev pub negatives : Interval → Interval
negatives a = from_to (pos 0 -ℤ a.high) (pos 0 -ℤ a.low)

-- a / b where no divisor is negative: 0 as the least divisor is taken as 1, and the quotients at the ends are enough
abbrev pub quotients_at_ends : Interval → Interval → Interval
quotients_at_ends a b = at_ends int_div a (from_to (int_max b.low (pos 1)) b.high)

-- no quotient has a greater magnitude than its dividend
abbrev pub up_to_magnitude : Interval → Interval
up_to_magnitude a = from_to (pos 0 -ℤ magnitude a) (magnitude a)

-- a / b: nothing where 0 is the one divisor
unfoldable pub quotients : IntType → Interval → Interval → Option Interval
quotients t a b =
    if int_lt b.low (pos 0)
    then clipped t (up_to_magnitude a)
    else (if int_le b.high (pos 0) then None else Some (quotients_at_ends a b))

-- a % b for divisors of magnitudes up to m: with the sign of the dividend, no greater than it in magnitude, and less than m
abbrev pub rests : Interval → ℤ → Interval
rests a m = from_to (int_min (int_max a.low (pos 1 -ℤ m)) (pos 0)) (int_max (int_min a.high (m -ℤ pos 1)) (pos 0))

-- a % b: nothing where 0 is the one divisor
unfoldable pub remainders : Interval → Interval → Option Interval
remainders a b = if int_le (magnitude b) (pos 0) then None else Some (rests a (magnitude b))

-- ---- shifts (C99 6.5.7)

-- the counts by which a value of the type may be shifted: from 0 to the width of the promoted type, less 1
abbrev pub shift_counts : IntType → Interval → Option Interval
shift_counts t b = meet_of b (from_to (pos 0) (pos (width_of (promoted t) - 1)))

-- x / 2 ^ n rounded down
abbrev pub halved : ℤ → ℤ → ℤ
halved x n = int_div_euclid x (pos (2 ^ unsigned_abs n))

-- x * 2 ^ n
abbrev pub doubled : ℤ → ℤ → ℤ
doubled x n = x *ℤ pos (2 ^ unsigned_abs n)

-- a >> b: the results at the ends
unfoldable pub shifts_right : IntType → Interval → Interval → Option Interval
shifts_right t a b = option_map (at_ends halved a) (shift_counts t b)

-- the numbers of a, which aren't negative, shifted by the counts of n
abbrev pub shifted_by : Interval → Interval → Interval
shifted_by n a = from_to (doubled a.low n.low) (doubled a.high n.high)

-- a << b: what isn't negative of a is shifted (each value of an unsigned type is such)
unfoldable pub shifts_left : IntType → Interval → Interval → Option Interval
shifts_left t a b = option_and_then (λ n. option_and_then (λ a. fitted_interval t (shifted_by n a)) (not_negative a)) (shift_counts t b)

-- ---- bits (C99 6.5.10 to 6.5.12, 6.5.3.3)

abbrev pub has_no_negative : Interval → Flag
has_no_negative a = int_le (pos 0) a.low

-- a & b: no greater than a number that isn't negative
unfoldable pub conjunctions : IntType → Interval → Interval → Interval
conjunctions t a b =
    if has_no_negative a
    then from_to (pos 0) (if has_no_negative b then int_min a.high b.high else a.high)
    else (if has_no_negative b then from_to (pos 0) b.high else values_of t)

-- the first exponent from k on, of at most `left` more, whose power of two is over n
abbrev pub exponent_over : ℕ → ℕ → ℕ → ℕ
exponent_over zero k n = k
exponent_over (suc left) k n = if nat_lt n (2 ^ k) then k else exponent_over left (suc k) n

-- how many binary digits z has: the least k with z < 2 ^ k, for z from 0 to 2 ^ 64 - 1
unfoldable pub binary_digits : ℤ → ℕ
binary_digits z = exponent_over 64 0 (unsigned_abs z)

-- from 0 to the greatest number that has no more binary digits than z
abbrev pub up_to_digits : ℤ → Interval
up_to_digits z = from_to (pos 0) (pos (2 ^ binary_digits z - 1))

-- a | b and a ^ b: of numbers that aren't negative they have no more binary digits than the longer
unfoldable pub disjunctions : IntType → Interval → Interval → Interval
disjunctions t a b =
    if has_no_negative a && has_no_negative b then up_to_digits (int_max a.high b.high) else values_of t

-- the sum of the ends of an interval, less the numbers of another
abbrev pub mirrored : Interval → Interval → Interval
mirrored all a = from_to ((all.low +ℤ all.high) -ℤ a.high) ((all.low +ℤ all.high) -ℤ a.low)

-- ~a: mirrored in the type (in a signed type that is -1 - x)
abbrev pub complements : IntType → Interval → Interval
complements t a = mirrored (values_of t) a

-- ---- tests (C99 6.5.8, 6.5.9, 6.5.3.3)

-- 1 where the contrary can't be, 0 where the test can't hold, else one of them
abbrev pub tested : Flag → Flag → Interval
tested itself contrary =
    if contrary then (if itself then from_to (pos 0) (pos 1) else from_to (pos 0) (pos 0)) else from_to (pos 1) (pos 1)

-- some number of a is less than, at most, equal to, other than some number of b
abbrev pub can_be_less : Interval → Interval → Flag
can_be_less a b = int_lt a.low b.high

abbrev pub can_be_at_most : Interval → Interval → Flag
can_be_at_most a b = int_le a.low b.high

abbrev pub can_be_equal : Interval → Interval → Flag
can_be_equal a b = can_be_at_most a b && can_be_at_most b a

abbrev pub can_differ : Interval → Interval → Flag
can_differ a b = can_be_less a b || can_be_less b a

abbrev pub only_zero : Interval
only_zero = from_to (pos 0) (pos 0)

-- ---- the table

-- a binary operator at a type to which its operands are converted
abbrev pub row_of : BinOp → IntType → Interval → Interval → Option Interval
row_of Add t a b = fitted_interval t (sums a b)
row_of Sub t a b = fitted_interval t (differences a b)
row_of Mul t a b = fitted_interval t (products a b)
row_of Div t a b = quotients t a b
row_of Rem t a b = remainders a b
row_of Shl t a b = shifts_left t a b
row_of Shr t a b = shifts_right t a b
row_of And t a b = Some (conjunctions t a b)
row_of Or t a b = Some (disjunctions t a b)
row_of Xor t a b = Some (disjunctions t a b)
row_of Lt t a b = Some (tested (can_be_less a b) (can_be_at_most b a))
row_of Gt t a b = Some (tested (can_be_less b a) (can_be_at_most a b))
row_of Le t a b = Some (tested (can_be_at_most a b) (can_be_less b a))
row_of Ge t a b = Some (tested (can_be_at_most b a) (can_be_less a b))
row_of Eq t a b = Some (tested (can_be_equal a b) (can_differ a b))
row_of Ne t a b = Some (tested (can_differ a b) (can_be_equal a b))

-- a unary operator at the type of its converted operand
abbrev pub unary_row_of : UnOp → IntType → Interval → Option Interval
unary_row_of Plus t a = Some a
unary_row_of Neg t a = fitted_interval t (negatives a)
unary_row_of Not t a = Some (tested (can_be_equal a only_zero) (can_differ a only_zero))
unary_row_of Com t a = Some (complements t a)

-- a conversion: exact or all; to `_Bool`, whether the value isn't 0 (C99 6.3.1.2, 6.3.1.3)
abbrev pub conversion_row_of : IntType → Interval → Interval
conversion_row_of Bool a = tested (can_differ a only_zero) (can_be_equal a only_zero)
conversion_row_of t a = exact_or_all t a
