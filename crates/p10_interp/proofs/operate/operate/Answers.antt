-- An operation goes on with the next work, except for `return`.
use Rattle.std.proofs.Common.{◌∷◌}
use Rattle.p10_core.specs.Views.{plain_program}
use Rattle.p10_interp.specs.private.Views.{tasks_in}
use Rattle.p10_interp.specs.private.Machines.{state_of}
use Rattle.p10_interp.proofs.Operated.{operated, acts_as}
use Rattle.p10_interp.proofs.operate.operate.Goals as goal

pub returns-in-GiveBack : goal.returns-in-GiveBack
returns-in-GiveBack c = λ io f calls e. acts_as (plain_program c.args.p.now) _ _ _ _ _ _ _ _ _ c.in-GiveBack.is (c.give_back.ensures (plain_program c.args.p.now) (state_of c.args.outside.now io) f calls e)

pub returns-in_default : goal.returns-in_default
returns-in_default c = λ io f calls e.
    c.normally.ensures c.operate_on.new.stacks _ _
    (operated (plain_program c.args.p.now) c.args.operation (tasks_in c.args.stacks.now.tasks) c.args.stacks.now.operands (f ∷ calls) (state_of c.args.outside.now io) (state_of c.operate_on.new.outside io) c.operate_on.result c.operate_on.new.stacks
    (c.operate_on.ensures.done io f calls e) c.operate_on.ensures.tasks)
