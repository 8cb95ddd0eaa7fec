-- The statements before those that are left were executed.
use Rattle.std.proofs.Common.{◌≡◌, ◌∷◌, List, length}
use Rattle.p10_core.specs.Views.{plain_program, plain_statements}
use Rattle.p10_interp.specs.private.Tasks.{Open}
use Rattle.p10_interp.specs.private.OpenCalls.{calls_in}
use Rattle.p10_interp.specs.private.Machines.{Around, state_of}
use Rattle.p10_interp.specs.private.Turning.{IsRow}
use Rattle.p10_interp.proofs.turns_at_once.execute_row.Given as goal

abbrev pub invariant-loop-left : goal.invariant-loop-left
invariant-loop-left l = (io : Around) (f : Open) (around : List Open) → calls_in l.initial.calls ≡ f ∷ around → IsRow (plain_program l.initial.p) (plain_statements l.initial.statements) (plain_statements l.left) f around (state_of l.initial.outside io) (calls_in l.calls) (state_of l.outside io)

abbrev pub decreases-loop-left : goal.decreases-loop-left
decreases-loop-left l = length l.left
