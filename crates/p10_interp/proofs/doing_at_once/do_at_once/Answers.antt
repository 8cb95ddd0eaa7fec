-- Each piece of work is done by its own function.
use Rattle.std.proofs.Common.{ap}
use Rattle.p10_core.specs.Views.{plain_program, plain_value, plain_statement, plain_statements}
use Rattle.p10_interp.specs.private.Tasks.{execute_statements}
use Rattle.p10_interp.specs.private.Views.{task_of, value_task, statement_task}
use Rattle.p10_interp.proofs.TurnedAtOnce.{work_does}
use Rattle.p10_interp.proofs.doing_at_once.do_at_once.Goals as goal

pub returns-in-Value-clause-ok : goal.returns-in-Value-clause-ok
returns-in-Value-clause-ok c =
    work_does (plain_program c.args.p.now) (task_of c.args.work) (value_task c.in-Value.step (plain_value c.in-Value.value.now)) c.args.stacks.now c.value_at_once.new.stacks c.args.outside.now c.value_at_once.new.outside c.is_idle.result c.value_at_once.result c.is_idle.ensures c.if-is_idle.false (ap task_of c.in-Value.is) c.value_at_once.ensures.ok

pub returns-in-ExecuteStatements-clause-ok : goal.returns-in-ExecuteStatements-clause-ok
returns-in-ExecuteStatements-clause-ok c =
    work_does (plain_program c.args.p.now) (task_of c.args.work) (execute_statements (plain_statements c.in-ExecuteStatements.statements.now)) c.args.stacks.now c.execute_first_at_once.new.stacks c.args.outside.now c.execute_first_at_once.new.outside c.is_idle.result c.execute_first_at_once.result c.is_idle.ensures c.if-is_idle.false (ap task_of c.in-ExecuteStatements.is) c.execute_first_at_once.ensures.ok

pub returns-in-Statement-clause-ok : goal.returns-in-Statement-clause-ok
returns-in-Statement-clause-ok c =
    work_does (plain_program c.args.p.now) (task_of c.args.work) (statement_task c.in-Statement.step (plain_statement c.in-Statement.statement.now)) c.args.stacks.now c.statement_at_once.new.stacks c.args.outside.now c.statement_at_once.new.outside c.is_idle.result c.statement_at_once.result c.is_idle.ensures c.if-is_idle.false (ap task_of c.in-Statement.is) c.statement_at_once.ensures.ok
