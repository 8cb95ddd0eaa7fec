-- Intervals of whole numbers: their numbers, and which are parts of which.
use Rattle.std.specs.Prelude.{◌&&◌, if◌then◌else◌, Bool as Flag, ℤ, pos, ◌≤ℤ◌, int_le, Option, Some, None}
use Rattle.std.specs.Int.{int_min, int_max}
use Rattle.p10_range.specs.declared.ranges.Range.{Range}

-- the whole numbers from low to high, both included; none where low is above high
pub record Interval : Type 0 where
  pub low : ℤ
  pub high : ℤ

abbrev pub from_to : ℤ → ℤ → Interval
from_to low high = record { low = low; high = high }

-- what a range stands for
abbrev pub interval_of : Range → Interval
interval_of r = from_to r.lo r.hi

-- z is a number of the interval
pub record IsMember (r : Interval) (z : ℤ) : Type 0 where
  pub above : r.low ≤ℤ z
  pub below : z ≤ℤ r.high

-- the interval has a number
abbrev pub IsInhabited : Interval → Type 0
IsInhabited r = r.low ≤ℤ r.high

-- the first lies in the second
pub record IsWithin (r s : Interval) : Type 0 where
  pub from_low : s.low ≤ℤ r.low
  pub to_high : r.high ≤ℤ s.high

-- the same as a test
abbrev pub is_within : Interval → Interval → Flag
is_within r s = int_le s.low r.low && int_le r.high s.high

-- the interval, if it has a number
abbrev pub inhabited_of : Interval → Option Interval
inhabited_of r = if int_le r.low r.high then Some r else None

-- the numbers from the least of both to the greatest of both
abbrev pub hull_of : Interval → Interval → Interval
hull_of r s = from_to (int_min r.low s.low) (int_max r.high s.high)

-- the least interval that has two numbers
abbrev pub between : ℤ → ℤ → Interval
between p q = from_to (int_min p q) (int_max p q)

-- the numbers that aren't negative
abbrev pub not_negative : Interval → Option Interval
not_negative r = inhabited_of (from_to (int_max r.low (pos 0)) r.high)

-- the numbers of both
abbrev pub meet_of : Interval → Interval → Option Interval
meet_of r s = inhabited_of (from_to (int_max r.low s.low) (int_min r.high s.high))
