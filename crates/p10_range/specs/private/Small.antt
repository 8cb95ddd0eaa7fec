-- Intervals whose numbers the code can add and multiply in 128 bits.
use Rattle.std.specs.Prelude.{◌-◌, ◌^◌, pos, neg_ℤ, ◌≤ℤ◌}
use Rattle.p10_range.specs.Ranges.{Interval}

-- its numbers are such as the types of C have: from -2 ^ 63 to 2 ^ 64 - 1 (C99 5.2.4.2.1)
pub record IsSmall (r : Interval) : Type 0 where
  pub small_low : neg_ℤ (pos (2 ^ 63)) ≤ℤ r.low
  pub small_high : r.high ≤ℤ pos (2 ^ 64 - 1)
