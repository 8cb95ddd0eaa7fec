-- One piece after another.
use Rattle.p10_core.specs.Views.{plain_program}
use Rattle.p10_meaning.specs.Statements.{normal}
use Rattle.p10_interp.specs.private.Machines.{state_of, rig_of}
use Rattle.p10_interp.proofs.Hastened.{stays, goes_then}
use Rattle.p10_interp.proofs.hastening.settle.Goals as goal

pub pieces-init : goal.pieces-init
pieces-init c = λ io. stays (plain_program c.args.p.now) (rig_of normal c.args.stacks.now) (state_of c.args.outside.now io)

pub pieces-preserved : goal.pieces-preserved
pieces-preserved c = λ io.
    goes_then (plain_program c.args.p.now) (rig_of normal c.args.stacks.now) (rig_of normal c.pieces.stacks) (rig_of normal c.settle_top.new.stacks) (state_of c.args.outside.now io) (state_of c.pieces.outside io) (state_of c.settle_top.new.outside io) (c.pieces.invariant io) (c.in-Ok.ensures.ok io)

pub returns-then-not-again-clause-ok : goal.returns-then-not-again-clause-ok
returns-then-not-again-clause-ok c = λ io.
    goes_then (plain_program c.args.p.now) (rig_of normal c.args.stacks.now) (rig_of normal c.pieces.stacks) (rig_of normal c.settle_top.new.stacks) (state_of c.args.outside.now io) (state_of c.pieces.outside io) (state_of c.settle_top.new.outside io) (c.pieces.invariant io) (c.in-Ok.ensures.ok io)
