-- What the code's pairs of variables, and what it knows, are.
use Rattle.std.specs.Prelude.{map}
use Rattle.p10_core.specs.Views.{plain_variable}
use Rattle.p10_diff.specs.declared.known.Pair.{Pair as CodePair}
use Rattle.p10_diff.specs.declared.known.Diff.{Diff}
use Rattle.p10_diff.specs.Differences.{Pair, Differences}
use Rattle.p10_diff.specs.Listed.{bounds_listed}

-- two variables, and what is known at the head
abbrev pub pair_by : CodePair → Pair
pair_by p = record { variables = map plain_variable p.variables.now; below = p.below; above = p.above; head = p.head.now.values }

-- what the code knows
abbrev pub differences_of : Diff → Differences
differences_of e = record { ranges = e.ranges.values; bounds = bounds_listed e.bounds.items; fall = e.fall }
