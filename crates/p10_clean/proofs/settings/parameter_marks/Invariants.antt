use Rattle.std.proofs.Common.{◌≡◌, ◌++◌, map, drop}
use Rattle.p10_core.specs.Views.{plain_variable}
use Rattle.p10_clean.specs.Settings.{parameter_marks}
use Rattle.p10_clean.proofs.settings.parameter_marks.Given as goal

abbrev pub invariant-loop-n : goal.invariant-loop-n
invariant-loop-n l = l.marks.items ++ parameter_marks l.n l.parameters (map plain_variable (drop l.n l.variables)) ≡ parameter_marks 0 l.parameters (map plain_variable l.variables)
