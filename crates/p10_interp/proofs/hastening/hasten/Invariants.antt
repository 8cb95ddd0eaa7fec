-- What the machine comes to stays, and no more is left to be done.
use Rattle.p10_core.specs.Views.{plain_program}
use Rattle.p10_meaning.specs.Statements.{normal}
use Rattle.p10_interp.specs.private.Machines.{Around, state_of, rig_of}
use Rattle.p10_interp.specs.private.Turning.{Goes}
use Rattle.p10_interp.proofs.hastening.hasten.Given as goal

abbrev pub invariant-pieces : goal.invariant-pieces
invariant-pieces l = (io : Around) → Goes (plain_program l.p) (rig_of normal l.initial.stacks) (state_of l.initial.outside io) (rig_of normal l.stacks) (state_of l.outside io)

abbrev pub decreases-pieces : goal.decreases-pieces
decreases-pieces l = l.outside.left
