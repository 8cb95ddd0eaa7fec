-- Turns were taken, and the body comes next.
use Rattle.std.proofs.Common.{◌≡◌, ◌∷◌, List, Some}
use Rattle.p10_base.specs.declared.at.At.{At}
use Rattle.p10_core.specs.Typed.{statement, block}
use Rattle.p10_core.specs.Views.{plain_program, plain_value, plain_statements}
use Rattle.p10_interp.specs.private.Tasks.{Open, Loop, execute_statement, end_turn}
use Rattle.p10_interp.specs.private.OpenCalls.{calls_in}
use Rattle.p10_interp.specs.private.Machines.{Around, state_of}
use Rattle.p10_interp.specs.private.Turning.{AreTaken}
use Rattle.p10_interp.proofs.turns_at_once.take_turns.Given as goal

abbrev pub invariant-loop-tested : goal.invariant-loop-tested
invariant-loop-tested l = (at : At) (io : Around) (f : Open) (around : List Open) (loop : Loop) → loop.tested ≡ Some (plain_value l.initial.parts.0.now) → loop.third ≡ plain_statements l.initial.parts.1.now → loop.body ≡ statement at (block (plain_statements l.initial.parts.2.now)) → calls_in l.initial.calls ≡ f ∷ around →
    AreTaken (plain_program l.initial.p) loop (λ k. execute_statement loop.body ∷ (end_turn loop ∷ k)) (λ f. f) f around (state_of l.initial.outside io) (calls_in l.calls) (state_of l.outside io)

abbrev pub decreases-loop-tested : goal.decreases-loop-tested
decreases-loop-tested l = l.outside.left
