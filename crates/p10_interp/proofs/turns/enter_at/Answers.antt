-- The body is a block, whose statements are these.
use Rattle.std.proofs.Common.{Some}
use Rattle.p10_interp.specs.private.Views.{tasks_in}
use Rattle.p10_meaning.specs.Statements.{normal}
use Rattle.p10_interp.specs.private.Machines.{rig_of}
use Rattle.p10_interp.proofs.Turned.{enters_block}
use Rattle.p10_interp.proofs.turns.enter_at.Goals as goal

pub returns-in-Block : goal.returns-in-Block
returns-in-Block c = λ w f calls e.
    enters_block (Some c.args.place) c.args.body.now.at c.args.body.now.form _ c.as_slice.result.now (tasks_in c.args.stacks.now.tasks) c.args.stacks.now.operands f calls w w c.enter_items.result (rig_of normal c.enter_items.new.stacks) c.in-Block.is c.as_slice.ensures (c.enter_items.ensures w f calls e)
