-- Each piece of work by its own act.
use Rattle.std.proofs.Common.{refl, ap}
use Rattle.p10_core.specs.Views.{plain_program, plain_statement, plain_statements}
use Rattle.p10_interp.specs.private.Views.{task_of, statement_task}
use Rattle.p10_interp.specs.private.Machines.{state_of}
use Rattle.p10_interp.proofs.Hastened.{work_acts, block_ends, nothing_acts}
use Rattle.p10_interp.proofs.hastening.settle_work.Goals as goal

pub returns-in-EndBlock-clause-ok : goal.returns-in-EndBlock-clause-ok
returns-in-EndBlock-clause-ok c = λ io.
    block_ends (plain_program c.args.p.now) (task_of c.args.work) c.args.stacks.now c.end_block.new.stacks (state_of c.args.outside.now io) (state_of c.end_block.new.outside io) c.is_idle.result c.is_idle.ensures c.if-is_idle.false (ap task_of c.in-EndBlock.is) (λ flow f calls e. c.end_block.ensures io flow f calls e)

pub returns-in-Statement-clause-ok : goal.returns-in-Statement-clause-ok
returns-in-Statement-clause-ok c =
    work_acts (plain_program c.args.p.now) (task_of c.args.work) (statement_task c.in-Statement.step (plain_statement c.in-Statement.statement.now)) c.args.stacks.now c.settle_step.new.stacks c.is_idle.result c.settle_step.result c.args.outside.now c.args.outside.now c.is_idle.ensures c.if-is_idle.false (ap task_of c.in-Statement.is) refl c.settle_step.ensures.ok

pub returns-in-ExecuteStatements-clause-ok : goal.returns-in-ExecuteStatements-clause-ok
returns-in-ExecuteStatements-clause-ok c = λ io.
    nothing_acts (plain_program c.args.p.now) (task_of c.args.work) (plain_statements c.in-ExecuteStatements.statements.now) c.is_nothing.result c.args.stacks.now (state_of c.args.outside.now io) c.is_idle.result c.is_idle.ensures c.if-is_idle.false (ap task_of c.in-ExecuteStatements.is) c.is_nothing.ensures
