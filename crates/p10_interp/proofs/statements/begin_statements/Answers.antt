-- The first statement comes before the others.
use Rattle.p10_core.specs.Views.{plain_program}
use Rattle.p10_interp.specs.private.Views.{tasks_in}
use Rattle.p10_interp.specs.private.Machines.{state_of}
use Rattle.p10_interp.proofs.Passed.{begun_first}
use Rattle.p10_interp.proofs.statements.begin_statements.Goals as goal

pub returns-in_ok-push-in-len1-up : goal.returns-in_ok-push-in-len1-up
returns-in_ok-push-in-len1-up c = λ io f calls e.
    begun_first (plain_program c.args.p.now) c.args.statements.now c.first-item.result (tasks_in c.args.stacks.now.tasks) (tasks_in c.push.new.self) c.args.stacks.now.operands f calls (state_of c.args.outside.now io) (state_of c.begin_statement.new.outside io) c.begin_statement.result c.begin_statement.new.stacks
    c.in-len1-up.len_at_least c.first-item.is c.in_ok-push-in-len1-up.ensures.ok (c.begin_statement.ensures io f calls e)
