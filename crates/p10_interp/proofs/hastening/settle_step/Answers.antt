-- The end of a turn, or a block.
use Rattle.std.proofs.Common.{ap}
use Rattle.p10_core.specs.Views.{plain_statement}
use Rattle.p10_interp.specs.private.Tasks.{execute_statement, end_turn}
use Rattle.p10_interp.specs.private.Views.{in_loop, statement_task}
use Rattle.p10_interp.proofs.Hastened.{acts_as}
use Rattle.p10_interp.proofs.hastening.settle_step.Goals as goal

pub returns-in-EndTurn-clause-ok : goal.returns-in-EndTurn-clause-ok
returns-in-EndTurn-clause-ok c = acts_as (statement_task c.args.step (plain_statement c.args.statement.now)) (in_loop (λ keyword l. end_turn l) (plain_statement c.args.statement.now)) c.args.stacks.now c.settle_turn.new.stacks c.settle_turn.result (ap (λ step. statement_task step (plain_statement c.args.statement.now)) c.in-EndTurn.is) c.settle_turn.ensures.ok

pub returns-in-Execute-clause-ok : goal.returns-in-Execute-clause-ok
returns-in-Execute-clause-ok c = acts_as (statement_task c.args.step (plain_statement c.args.statement.now)) (execute_statement (plain_statement c.args.statement.now)) c.args.stacks.now c.settle_statement.new.stacks c.settle_statement.result (ap (λ step. statement_task step (plain_statement c.args.statement.now)) c.in-Execute.is) c.settle_statement.ensures.ok
