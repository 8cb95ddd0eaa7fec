use Rattle.std.proofs.Common.{◌≡◌, ◌++◌, drop, map}
use Rattle.p10_core.specs.Views.{plain_variable}
use Rattle.p10_candidates.specs.Trials.{lines_from}
use Rattle.p10_candidates.proofs.claims.lines.Given as goal

-- the lines so far, and those of the variables that are left
abbrev pub invariant-loop-n : goal.invariant-loop-n
invariant-loop-n l = l.lines ++ lines_from l.n (map plain_variable (drop l.n l.variables)) l.head.values ≡ lines_from 0 (map plain_variable l.variables) l.head.values
