-- The statement is a loop, whose parts are these.
use Rattle.std.proofs.Common.{sym, ap, refl}
use Rattle.p10_core.specs.Views.{plain_program, plain_statement}
use Rattle.p10_interp.specs.private.Tasks.{test_loop, enter_turn, end_turn}
use Rattle.p10_interp.proofs.Chosen.{act_by}
use Rattle.p10_interp.proofs.Turned.{looped}
use Rattle.p10_interp.proofs.turns.test.Goals as goal

pub returns-in-Loop : goal.returns-in-Loop
returns-in-Loop c = λ io f calls e.
    act_by (plain_program c.args.p.now) _ _ _ _ _ _ _ _ _ (looped (λ keyword l. test_loop l) c.args.statement.now.at c.args.statement.now.form _ _ _ _ _ c.in-Loop.is)
    (c.test_by.ensures io f calls _ refl (sym (ap plain_statement c.deref.ensures)) (looped (λ keyword l. enter_turn l) c.args.statement.now.at c.args.statement.now.form _ _ _ _ _ c.in-Loop.is) (looped (λ keyword l. end_turn l) c.args.statement.now.at c.args.statement.now.form _ _ _ _ _ c.in-Loop.is) e)
