-- What the code's distances, parts and midpoints are.
use Rattle.std.specs.Prelude.{pos, ◌≤ℤ◌, unsigned_abs}
use Rattle.p10_diff.specs.declared.halving.Distance.{Distance as CodeDistance}
use Rattle.p10_diff.specs.declared.halving.Part.{Part as CodePart}
use Rattle.p10_diff.specs.declared.halving.Midpoint.{Midpoint as CodeMidpoint}
use Rattle.p10_diff.specs.Bounds.{lowest, highest}
use Rattle.p10_diff.specs.Expressions.{Distance, Part, Midpoint}

abbrev pub distance_by : CodeDistance → Distance
distance_by d = record { below = d.below; above = d.above }

abbrev pub part_by : CodePart → Part
part_by q = record { of = distance_by q.of; by = unsigned_abs q.by }

abbrev pub midpoint_by : CodeMidpoint → Midpoint
midpoint_by m = record { way = distance_by m.way; by = unsigned_abs m.by; at_least = m.at_least; at_most = m.at_most }

-- the code divides by no less than 2
abbrev pub IsPart : CodePart → Type 0
IsPart q = pos 2 ≤ℤ q.by

-- and its distances are within the bounds that are kept
pub record IsMidpoint (m : CodeMidpoint) : Type 0 where
  pub divides : pos 2 ≤ℤ m.by
  pub some : pos 0 ≤ℤ m.at_least
  pub least : m.at_least ≤ℤ highest
  pub low : lowest ≤ℤ m.at_most
  pub high : m.at_most ≤ℤ highest
