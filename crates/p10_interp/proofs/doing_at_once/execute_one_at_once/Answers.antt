-- The statement was executed, or nothing was changed.
use Rattle.std.proofs.Common.{refl}
use Rattle.p10_core.specs.Views.{plain_program, plain_statement_form}
use Rattle.p10_interp.specs.private.Machines.{state_of}
use Rattle.p10_interp.proofs.TurnedAtOnce.{statement_does}
use Rattle.p10_interp.proofs.doing_at_once.execute_one_at_once.Goals as goal

pub returns-clause-ok : goal.returns-clause-ok
returns-clause-ok c = λ io f calls e.
    statement_does (plain_program c.args.p.now) c.args.statement.now.at (plain_statement_form c.args.statement.now.form) c.execute_at_once.result c.args.stacks.now (record c.args.stacks.now { calls = c.execute_at_once.new.calls; frame = c.execute_at_once.new.frame }) f calls (state_of c.args.outside.now io) (state_of c.execute_at_once.new.outside io) e refl c.execute_at_once.ensures.fewer (c.execute_at_once.ensures.done io f calls e)
