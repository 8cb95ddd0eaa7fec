-- None of the variables so far is an object.
use Rattle.std.proofs.Common.{◌≡◌, map, drop}
use Rattle.p10_core.specs.Views.{plain_variable}
use Rattle.p10_code.specs.Frames.{has_objects}
use Rattle.p10_compile.proofs.exits.has_objects.Given as goal

abbrev pub invariant-loop-variable : goal.invariant-loop-variable
invariant-loop-variable l = has_objects (map plain_variable (drop l.variable-index l.variables)) ≡ has_objects (map plain_variable l.variables)
