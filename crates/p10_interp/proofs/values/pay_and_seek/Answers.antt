-- The step pays for the place, before which the work after it was put down.
use Rattle.std.proofs.Common.{◌∷◌}
use Rattle.p10_core.specs.Views.{plain_program, plain_place}
use Rattle.p10_meaning.specs.Statements.{normal}
use Rattle.p10_interp.specs.private.Tasks.{operate}
use Rattle.p10_interp.specs.private.Views.{operation_of, tasks_in}
use Rattle.p10_interp.specs.private.Machines.{state_of, rig_of}
use Rattle.p10_interp.proofs.Begun.{sought_paid}
use Rattle.p10_interp.proofs.values.pay_and_seek.Goals as goal

pub returns : goal.returns
returns c = λ io f calls e.
    sought_paid (plain_program c.args.p.now) (plain_place c.args.place.now) (operate (operation_of c.args.after) ∷ tasks_in c.args.stacks.now.tasks) _ c.args.stacks.now.operands f calls
    (state_of c.args.outside.now io) (state_of c.seek.new.outside io) c.seek.result (rig_of normal c.seek.new.stacks) c.if-outside-eq0.false
    c.in_ok-push.ensures.ok (c.seek.ensures io f calls e)
