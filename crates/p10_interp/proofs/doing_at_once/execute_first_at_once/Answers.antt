-- The first statement was executed, or nothing was changed.
use Rattle.std.proofs.Common.{refl}
use Rattle.p10_core.specs.Views.{plain_program, plain_statements, plain_statement_form}
use Rattle.p10_interp.specs.private.Tasks.{execute_statements}
use Rattle.p10_interp.specs.private.Machines.{state_of}
use Rattle.p10_interp.proofs.TurnedAtOnce.{first_not, first_does}
use Rattle.p10_interp.proofs.doing_at_once.execute_first_at_once.Goals as goal

pub returns-then-not-execute_at_once-clause-ok : goal.returns-then-not-execute_at_once-clause-ok
returns-then-not-execute_at_once-clause-ok c = λ io f calls e.
    first_not (plain_program c.args.p.now) (execute_statements (plain_statements c.args.statements.now)) (plain_statement_form c.first-item.result.form) c.execute_at_once.result c.args.stacks.now (record c.args.stacks.now { calls = c.execute_at_once.new.calls; frame = c.execute_at_once.new.frame }) f calls (state_of c.args.outside.now io) (state_of c.execute_at_once.new.outside io) c.if-not-execute_at_once.true e refl (c.execute_at_once.ensures.done io f calls e)

pub returns-in_ok-push-in-len1-up-clause-ok : goal.returns-in_ok-push-in-len1-up-clause-ok
returns-in_ok-push-in-len1-up-clause-ok c = λ io f calls e.
    first_does (plain_program c.args.p.now) c.args.statements.now c.first-item.result c.execute_at_once.result c.args.stacks.now (record c.args.stacks.now { tasks = c.push.new.self; calls = c.execute_at_once.new.calls; frame = c.execute_at_once.new.frame }) f calls (state_of c.args.outside.now io) (state_of c.execute_at_once.new.outside io) c.in-len1-up.len_at_least c.first-item.is c.if-not-execute_at_once.false e c.in_ok-push-in-len1-up.ensures.ok refl (c.execute_at_once.ensures.fewer c.if-not-execute_at_once.false) (c.execute_at_once.ensures.done io f calls e)
