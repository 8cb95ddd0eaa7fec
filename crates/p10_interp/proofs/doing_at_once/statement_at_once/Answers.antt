-- The statement is executed, or it is a loop whose test comes.
use Rattle.std.proofs.Common.{ap}
use Rattle.p10_core.specs.Views.{plain_program, plain_statement}
use Rattle.p10_interp.specs.private.Tasks.{execute_statement, test_loop}
use Rattle.p10_interp.specs.private.Views.{in_loop, statement_task}
use Rattle.p10_interp.proofs.TurnedAtOnce.{does_as}
use Rattle.p10_interp.proofs.doing_at_once.statement_at_once.Goals as goal

pub returns-in-Execute-clause-ok : goal.returns-in-Execute-clause-ok
returns-in-Execute-clause-ok c =
    does_as (plain_program c.args.p.now) (statement_task c.args.step (plain_statement c.args.statement.now)) (execute_statement (plain_statement c.args.statement.now)) c.args.stacks.now c.execute_one_at_once.new.stacks c.args.outside.now c.execute_one_at_once.new.outside c.execute_one_at_once.result (ap (λ step. statement_task step (plain_statement c.args.statement.now)) c.in-Execute.is) c.execute_one_at_once.ensures.ok

pub returns-in-TestLoop-clause-ok : goal.returns-in-TestLoop-clause-ok
returns-in-TestLoop-clause-ok c =
    does_as (plain_program c.args.p.now) (statement_task c.args.step (plain_statement c.args.statement.now)) (in_loop (λ keyword l. test_loop l) (plain_statement c.args.statement.now)) c.args.stacks.now c.test_at_once.new.stacks c.args.outside.now c.test_at_once.new.outside c.test_at_once.result (ap (λ step. statement_task step (plain_statement c.args.statement.now)) c.in-TestLoop.is) c.test_at_once.ensures.ok
