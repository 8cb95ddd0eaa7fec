-- What the operators of C give on abstract values: the rows of `p10_range`, and what they do to offsets.
use Rattle.std.specs.Prelude.{◌^◌, ◌-◌, ◌&&◌, ◌||◌, if◌then◌else◌, Bool, true, ℤ, pos, neg_ℤ, ◌-ℤ◌, int_le, Option, Some, None}
use Rattle.std.specs.Option.{option_map, option_and_then}
use Rattle.p10_int.specs.declared.types.IntType.{IntType}
use Rattle.p10_int.specs.declared.operators.BinOp.{BinOp}
use Rattle.p10_int.specs.declared.operators.BinOp.TheVariants.{Add, Sub, Div, Shl, Shr}
use Rattle.p10_int.specs.declared.operators.UnOp.{UnOp}
use Rattle.p10_int.specs.declared.operators.UnOp.TheVariants.{Plus}
use Rattle.p10_int.specs.Types.{is_signed_of}
use Rattle.p10_range.specs.Ranges.{Interval, from_to, is_within}
use Rattle.p10_range.specs.Rows.{values_of, sums, differences, negatives, row_of, unary_row_of, conversion_row_of}
use Rattle.p10_absx.specs.Abstract.{Offset, Abstract, only_range, whole_type, moved_by}

-- ## Conversions (C99 6.3.1)

-- the values of all integer types
abbrev pub all_types : Interval
all_types = from_to (neg_ℤ (pos (2 ^ 63))) (pos (2 ^ 64 - 1))

-- a number of the range converted to the type
abbrev pub converted_range : IntType → Interval → Interval
converted_range kind r = if is_within r all_types then conversion_row_of kind r else values_of kind

-- a conversion: what the type has of it stays as it is, its offset too
abbrev pub converted_abstract : IntType → Abstract → Abstract
converted_abstract kind a = if is_within a.range (values_of kind) then a else only_range (converted_range kind a.range)

-- ## Unary operators (C99 6.5.3.3)

-- unary `+` keeps the offset
abbrev pub unary_offset : UnOp → Option Offset → Option Offset
unary_offset Plus o = o
unary_offset op o = None

-- a unary operator at the type of its operand; an operand that isn't of the type could be anything
abbrev pub unary_abstract : UnOp → IntType → Abstract → Option Abstract
unary_abstract op kind a =
    if is_within a.range (values_of kind)
    then option_map (λ r. record { range = r; offset = unary_offset op a.offset }) (unary_row_of op kind a.range)
    else Some (whole_type kind)

-- ## Binary operators (C99 6.5.5 to 6.5.12)

-- whether results at the type are exact: a signed type has the exact result or stops, an unsigned one reduces it
abbrev pub is_exact : IntType → Interval → Bool
is_exact kind r = is_signed_of kind || is_within r (values_of kind)

-- the offset of a sum: the left operand's, moved by the right one, or else the right one's, moved by the left one
abbrev pub sum_offset : Abstract → Abstract → Option Offset
sum_offset a b = of a.offset b.offset
  where
    of : Option Offset → Option Offset → Option Offset
    of (Some o) p = moved_by b.range o
    of None (Some p) = moved_by a.range p
    of None None = None

-- a quotient by at least 2 of a number that is at least 1 is smaller by at least 1, and not by more than the number
abbrev pub shrunk : Interval → Interval
shrunk a = from_to (pos 0 -ℤ a.high) (pos 0 -ℤ pos 1)

-- the offset of a number that an operator makes smaller: where it is positive, and the other operand is at least a number
abbrev pub shrunk_offset : Abstract → Interval → ℤ → Option Offset
shrunk_offset a b least = if int_le (pos 1) a.range.low && int_le least b.low then option_and_then (moved_by (shrunk a.range)) a.offset else None

-- what an operator does to offsets: `+`, `-`, and `/` and `>>` where they make a positive number smaller
abbrev pub binary_offset : BinOp → IntType → Abstract → Abstract → Option Offset
binary_offset Add kind a b = if is_exact kind (sums a.range b.range) then sum_offset a b else None
binary_offset Sub kind a b =
    if is_exact kind (differences a.range b.range) then option_and_then (moved_by (negatives b.range)) a.offset else None
binary_offset Div kind a b = shrunk_offset a b.range (pos 2)
binary_offset Shr kind a b = shrunk_offset a b.range (pos 1)
binary_offset op kind a b = None

-- whether the right operand of an operator is one: it lies in the type, and for a shift anywhere
abbrev pub is_right_operand : BinOp → IntType → Interval → Bool
is_right_operand Shl kind b = true
is_right_operand Shr kind b = true
is_right_operand op kind b = is_within b (values_of kind)

-- a binary operator at a type to which its operands are converted: nothing where every pair stops; operands that aren't of the
-- type could be anything
abbrev pub binary_abstract : BinOp → IntType → Abstract → Abstract → Option Abstract
binary_abstract op kind a b =
    if is_within a.range (values_of kind) && is_right_operand op kind b.range
    then option_map (λ r. record { range = r; offset = binary_offset op kind a b }) (row_of op kind a.range b.range)
    else Some (whole_type kind)
