-- The bytes of the variables that are left come to those of all.
use Rattle.std.proofs.Common.{◌≡◌, ◌+◌, sum, map, drop}
use Rattle.p10_core.specs.Views.{plain_variable}
use Rattle.p10_machine.proofs.calling.bytes_with.Given as goal

abbrev pub invariant-loop-variable : goal.invariant-loop-variable
invariant-loop-variable l =
    l.all + sum (map (λ v. v.bytes) (map plain_variable (drop l.variable-index l.variables))) ≡ l.before + sum (map (λ v. v.bytes) (map plain_variable l.variables))
