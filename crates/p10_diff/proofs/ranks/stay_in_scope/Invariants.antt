use Rattle.std.proofs.Common.{◌≡◌, drop, map}
use Rattle.p10_core.specs.Views.{plain_variable}
use Rattle.p10_diff.specs.Evidence.{stay_in_scope}
use Rattle.p10_diff.proofs.ranks.stay_in_scope.Given as goal

-- what is left decides what the whole decides
abbrev pub invariant-loop-n : goal.invariant-loop-n
invariant-loop-n l = stay_in_scope l.n (map plain_variable (drop l.n l.variables)) l.before.values l.after.values ≡ stay_in_scope 0 (map plain_variable l.variables) l.before.values l.after.values
