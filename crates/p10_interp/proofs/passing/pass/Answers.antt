-- The ends of blocks and of a `switch`, and what is done with a statement.
use Rattle.std.proofs.Common.{◌∷◌, sym, ◌∙◌, ap}
use Rattle.p10_core.specs.Views.{plain_program}
use Rattle.p10_interp.specs.private.Tasks.{end_switch}
use Rattle.p10_interp.specs.private.Views.{flow_of, task_of, tasks_in}
use Rattle.p10_interp.specs.private.Machines.{state_of}
use Rattle.p10_interp.specs.private.Acts.{pass}
use Rattle.p10_interp.proofs.Passed.{passed_as, block_passed}
use Rattle.p10_interp.proofs.passing.pass.Goals as goal

pub returns-in-EndBlock : goal.returns-in-EndBlock
returns-in-EndBlock c = λ io f calls e.
    ap (λ work. pass (plain_program c.args.p.now) (flow_of c.args.flow) (task_of work) (tasks_in c.args.stacks.now.tasks) c.args.stacks.now.operands (f ∷ calls) (state_of c.args.outside.now io)) c.in-EndBlock.is ∙
    (block_passed (plain_program c.args.p.now) (flow_of c.args.flow) (tasks_in c.args.stacks.now.tasks) c.args.stacks.now.operands f calls (state_of c.args.outside.now io) ∙ c.end_block.ensures io (flow_of c.args.flow) f calls e)

pub returns-in-EndSwitch : goal.returns-in-EndSwitch
returns-in-EndSwitch c = λ io f calls e.
    ap (λ work. pass (plain_program c.args.p.now) (flow_of c.args.flow) (task_of work) (tasks_in c.args.stacks.now.tasks) c.args.stacks.now.operands (f ∷ calls) (state_of c.args.outside.now io)) c.in-EndSwitch.is ∙
    (ap (λ calls. pass (plain_program c.args.p.now) (flow_of c.args.flow) end_switch (tasks_in c.args.stacks.now.tasks) c.args.stacks.now.operands calls (state_of c.args.outside.now io)) (sym e) ∙
    c.after_switch.ensures (plain_program c.args.p.now) c.args.stacks.now (state_of c.args.outside.now io))

pub returns-in-Statement : goal.returns-in-Statement
returns-in-Statement c = λ io f calls e.
    passed_as (plain_program c.args.p.now) (flow_of c.args.flow) _ _ (tasks_in c.args.stacks.now.tasks) c.args.stacks.now.operands (f ∷ calls) (state_of c.args.outside.now io) (state_of c.pass_statement.new.outside io) c.pass_statement.result c.pass_statement.new.stacks (ap task_of c.in-Statement.is)
    (c.pass_statement.ensures io f calls e)
