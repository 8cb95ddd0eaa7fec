use Rattle.std.proofs.Common.{◌≡◌, ◌++◌, map, drop}
use Rattle.p10_range.specs.Ranges.{interval_of}
use Rattle.p10_core.specs.Views.{plain_variable}
use Rattle.p10_pass.proofs.Claimed.{type_range}
use Rattle.p10_pass.proofs.claiming.type_ranges.Given as goal

abbrev pub invariant-loop-v : goal.invariant-loop-v
invariant-loop-v l = map interval_of l.ranges.items ++ map type_range (map plain_variable (drop l.v-index l.variables)) ≡ map type_range (map plain_variable l.variables)
