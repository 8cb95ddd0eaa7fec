-- The statement is a loop, whose parts are these.
use Rattle.std.proofs.Common.{sym, ap}
use Rattle.p10_core.specs.Views.{plain_statements}
use Rattle.p10_interp.specs.private.Tasks.{test_loop, end_turn}
use Rattle.p10_interp.proofs.Chosen.{act_by}
use Rattle.p10_interp.proofs.Turned.{looped}
use Rattle.p10_interp.proofs.turns.end_turn.Goals as goal

pub returns-in-Loop : goal.returns-in-Loop
returns-in-Loop c = λ p w f calls e.
    act_by p _ _ _ _ _ _ _ _ _ (looped (λ keyword l. end_turn l) c.args.statement.now.at c.args.statement.now.form _ _ _ _ _ c.in-Loop.is)
    (c.end_by.ensures p w f calls _ (sym (ap plain_statements c.as_slice.ensures)) (looped (λ keyword l. test_loop l) c.args.statement.now.at c.args.statement.now.form _ _ _ _ _ c.in-Loop.is) e)
