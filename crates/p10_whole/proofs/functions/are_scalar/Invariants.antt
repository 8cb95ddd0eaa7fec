use Rattle.std.proofs.Common.{◌≡◌, true, map, drop}
use Rattle.std.specs.List.{All}
use Rattle.p10_core.specs.Rows.{is_scalar}
use Rattle.p10_core.specs.Views.{plain_variable}
use Rattle.p10_whole.proofs.functions.are_scalar.Given as goal

abbrev pub invariant-loop-variable : goal.invariant-loop-variable
invariant-loop-variable l = All (λ v. is_scalar v.type ≡ true) (map plain_variable (drop l.variable-index l.variables)) → All (λ v. is_scalar v.type ≡ true) (map plain_variable l.variables)
