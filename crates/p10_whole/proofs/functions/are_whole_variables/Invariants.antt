use Rattle.std.proofs.Common.{map, drop}
use Rattle.std.specs.List.{All}
use Rattle.p10_core.specs.Views.{plain_types, plain_variable}
use Rattle.p10_core.specs.WholePrograms.{IsWholeVariable}
use Rattle.p10_whole.proofs.functions.are_whole_variables.Given as goal

abbrev pub invariant-loop-variable : goal.invariant-loop-variable
invariant-loop-variable l = All (IsWholeVariable (plain_types l.types)) (map plain_variable (drop l.variable-index l.variables)) → All (IsWholeVariable (plain_types l.types)) (map plain_variable l.variables)
