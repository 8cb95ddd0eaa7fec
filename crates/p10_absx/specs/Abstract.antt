-- Abstract values: what is known of a whole number, as a range and perhaps as its difference from a variable.
use Rattle.std.specs.Prelude.{ℕ, ◌^◌, eqb, ◌&&◌, if◌then◌else◌, Bool, ℤ, pos, neg_ℤ, int_le, Option, Some, None}
use Rattle.std.specs.Option.{option_map}
use Rattle.p10_int.specs.declared.types.IntType.{IntType}
use Rattle.p10_range.specs.Ranges.{Interval, interval_of, hull_of}
use Rattle.p10_range.specs.declared.ranges.Range.{Range}
use Rattle.p10_range.specs.Rows.{values_of, sums}
use Rattle.p10_absx.specs.declared.abs.Abs.{Abs}

-- an offset: a variable of the function, and the range of the difference from what that variable held at the head of the
-- innermost loop
pub record Offset : Type 0 where
  pub about : ℕ
  pub by : Interval

-- an abstract value: the range in which a number lies, and perhaps its offset
pub record Abstract : Type 0 where
  pub range : Interval
  pub offset : Option Offset

-- a range without an offset
abbrev pub only_range : Interval → Abstract
only_range r = record { range = r; offset = None }

-- any value of an integer type
abbrev pub whole_type : IntType → Abstract
whole_type kind = only_range (values_of kind)

-- ## What the code's values are

-- an offset of the code
abbrev pub offset_of : ℕ × Range → Offset
offset_of o = record { about = o.0; by = interval_of o.1 }

-- an abstract value of the code
abbrev pub abstract_of : Abs → Abstract
abstract_of a = record { range = interval_of a.range; offset = option_map offset_of a.offset }

-- ## Offsets

-- the greatest magnitude of a difference that is kept
abbrev pub farthest : ℤ
farthest = pos (2 ^ 66)

-- whether a range of differences is kept
abbrev pub is_near : Interval → Bool
is_near r = int_le (neg_ℤ farthest) r.low && int_le r.high farthest

-- an offset whose range is too far is dropped
abbrev pub near : Offset → Option Offset
near o = if is_near o.by then Some o else None

-- the offset of a number that differs from another one by a number of a range
abbrev pub moved_by : Interval → Offset → Option Offset
moved_by r o = if is_near o.by && is_near r then near (record { about = o.about; by = sums o.by r }) else None

-- ## Hulls

-- an offset is kept only where both have one about the same variable
abbrev pub hull_offset : Option Offset → Option Offset → Option Offset
hull_offset None b = None
hull_offset (Some o) None = None
hull_offset (Some o) (Some p) = if eqb o.about p.about then Some (record { about = o.about; by = hull_of o.by p.by }) else None

-- the least abstract value that has the numbers of both
abbrev pub hull_abstract : Abstract → Abstract → Abstract
hull_abstract a b = record { range = hull_of a.range b.range; offset = hull_offset a.offset b.offset }
