-- Ranges of differences that are kept.
use Rattle.std.specs.Prelude.{neg_ℤ, ◌≤ℤ◌}
use Rattle.p10_range.specs.Ranges.{Interval}
use Rattle.p10_absx.specs.Abstract.{farthest}

-- no difference is farther than is kept
pub record IsNear (r : Interval) : Type 0 where
  pub low : neg_ℤ farthest ≤ℤ r.low
  pub high : r.high ≤ℤ farthest
