-- Which operators stop for some numbers of the ranges of their operands: conditions C1 to C3 on integers (C99 6.5p5, 6.5.3.3, 6.5.5, 6.5.7).
use Rattle.std.specs.Prelude.{◌&&◌, ◌||◌, not, Bool, false, ℤ, pos, neg_ℤ, int_le, is_err}
use Rattle.p10_int.specs.declared.types.IntType.{IntType}
use Rattle.p10_int.specs.declared.operators.BinOp.{BinOp}
use Rattle.p10_int.specs.declared.operators.BinOp.TheVariants.{Add, Sub, Mul, Div, Rem, Shl, Shr}
use Rattle.p10_int.specs.declared.operators.UnOp.{UnOp}
use Rattle.p10_int.specs.declared.operators.UnOp.TheVariants.{Neg}
use Rattle.p10_int.specs.Types.{is_signed_of, least_of, holds}
use Rattle.p10_int.specs.Operators.{operate, operate_unary}
use Rattle.p10_range.specs.Ranges.{Interval}

-- ## At single numbers. One that the operator's type doesn't have counts as a stop; in whole programs none comes

-- whether an operator stops at two numbers
abbrev pub stops_at : BinOp → IntType → ℤ → ℤ → Bool
stops_at op t x y = not (holds t x && holds t y) || is_err (operate op t x y)

-- whether a sum, a difference or a product stops at two numbers
abbrev pub overflow_at : BinOp → IntType → ℤ → ℤ → Bool
overflow_at Add t x y = stops_at Add t x y
overflow_at Sub t x y = stops_at Sub t x y
overflow_at Mul t x y = stops_at Mul t x y
overflow_at op t x y = false

-- whether a negation stops at a number
abbrev pub negation_at : UnOp → IntType → ℤ → Bool
negation_at Neg t x = not (holds t x) || is_err (operate_unary Neg t x)
negation_at op t x = false

-- whether a shift stops at a number and a count, which may be of any type
abbrev pub shift_at : BinOp → IntType → ℤ → ℤ → Bool
shift_at Shl t x count = not (holds t x) || is_err (operate Shl t x count)
shift_at Shr t x count = not (holds t x) || is_err (operate Shr t x count)
shift_at op t x count = false

-- ## Over ranges

-- whether something holds at a pair of ends of two ranges
abbrev pub at_some_ends : (ℤ → ℤ → Bool) → Interval → Interval → Bool
at_some_ends f a b = f a.low b.low || (f a.low b.high || (f a.high b.low || f a.high b.high))

-- whether a range has a number
abbrev pub has_number : Interval → ℤ → Bool
has_number r z = int_le r.low z && int_le z r.high

-- C1: the exact range of a signed sum, difference or product doesn't lie in its type. The ends of that range are results at ends of the
-- operands, so it lies in the type where the operator stops at none of them
abbrev pub overflows : BinOp → IntType → Interval → Interval → Bool
overflows op t a b = at_some_ends (overflow_at op t) a b

-- C1 of a negation
abbrev pub negation_overflows : UnOp → IntType → Interval → Bool
negation_overflows op t a = negation_at op t a.low || negation_at op t a.high

-- the divisor may be 0, or the quotient may be that of the least value of a signed type by -1
abbrev pub quotient_stops : IntType → Interval → Interval → Bool
quotient_stops t a b = has_number b (pos 0) || (is_signed_of t && (has_number a (least_of t) && has_number b (neg_ℤ (pos 1))))

-- C2: a division or a remainder may have no quotient
abbrev pub misdivides : BinOp → IntType → Interval → Interval → Bool
misdivides Div t a b = quotient_stops t a b
misdivides Rem t a b = quotient_stops t a b
misdivides op t a b = false

-- C3: a count isn't one of 0 to the width less 1, or what a signed type shifts left is negative or becomes too great. Each of these
-- holds at an end of a range where it holds anywhere in it
abbrev pub misshifts : BinOp → IntType → Interval → Interval → Bool
misshifts op t a b = at_some_ends (shift_at op t) a b
