-- The variables that are left are held after those that are.
use Rattle.std.proofs.Common.{◌≡◌, List, ◌∷◌, map, drop}
use Rattle.p10_core.specs.Views.{plain_variable}
use Rattle.p10_meaning.specs.Calling.{entered}
use Rattle.p10_interp.specs.private.Tasks.{Open}
use Rattle.p10_interp.specs.private.OpenCalls.{calls_in}
use Rattle.p10_interp.specs.private.Machines.{Around, state_of}
use Rattle.p10_interp.specs.private.Entering.{IsHolding}
use Rattle.p10_interp.proofs.entering.hold_variables.Given as goal

abbrev pub invariant-loop-variable : goal.invariant-loop-variable
invariant-loop-variable l =
    (io : Around) (f : Open) (around : List Open) → calls_in l.initial.calls ≡ f ∷ around →
    IsHolding (entered (map plain_variable l.variables) l.initial.arguments (state_of l.initial.outside io)) (entered (map plain_variable (drop l.variable-index l.variables)) l.arguments (state_of l.outside io)) f around (calls_in l.calls)
