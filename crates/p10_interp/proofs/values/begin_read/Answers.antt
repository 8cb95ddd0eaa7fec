-- What the place is read for comes after it.
use Rattle.p10_core.specs.Types.{plain_type}
use Rattle.p10_core.specs.Views.{plain_program, plain_place}
use Rattle.p10_meaning.specs.Statements.{normal}
use Rattle.p10_interp.specs.private.Tasks.{operate}
use Rattle.p10_interp.specs.private.Views.{operation_of, tasks_in}
use Rattle.p10_interp.specs.private.Machines.{state_of, rig_of}
use Rattle.p10_interp.specs.private.Acts.{reading}
use Rattle.p10_interp.proofs.Begun.{sought_before}
use Rattle.p10_interp.proofs.values.begin_read.Goals as goal

pub returns : goal.returns
returns c = λ io f calls e.
    sought_before (plain_program c.args.p.now) (plain_place c.args.place.now) (operate (operation_of c.reading.result)) (reading (plain_type c.args.value.now.ty) (plain_place c.args.place.now)) (tasks_in c.args.stacks.now.tasks) c.args.stacks.now.operands f calls
    (state_of c.args.outside.now io) (state_of c.pay_and_seek.new.outside io) c.pay_and_seek.result (rig_of normal c.pay_and_seek.new.stacks) c.reading.ensures (c.pay_and_seek.ensures io f calls e)
