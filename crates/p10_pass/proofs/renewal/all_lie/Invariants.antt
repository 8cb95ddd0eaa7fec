use Rattle.std.proofs.Common.{◌≡◌, drop, map}
use Rattle.p10_range.specs.Ranges.{interval_of}
use Rattle.p10_core.specs.Views.{plain_variable}
use Rattle.p10_pass.specs.private.Renewing.{range_at, entries_lie}
use Rattle.p10_pass.proofs.renewal.all_lie.Given as goal

-- what is left to be looked at decides what the whole decides
abbrev pub invariant-loop-n : goal.invariant-loop-n
invariant-loop-n l =
    entries_lie (range_at (map interval_of l.ranges)) l.n (map plain_variable (drop l.n l.variables)) l.env.values ≡ entries_lie (range_at (map interval_of l.ranges)) 0 (map plain_variable l.variables) l.env.values
