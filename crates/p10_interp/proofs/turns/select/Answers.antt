-- The statement is a `switch`, whose parts are these.
use Rattle.std.proofs.Common.{◌∙◌, sym, ap}
use Rattle.p10_core.specs.declared.statements.Stmt.{Stmt}
use Rattle.p10_core.specs.Views.{plain_labels, plain_statement}
use Rattle.p10_interp.specs.private.Tasks.{select}
use Rattle.p10_interp.proofs.Chosen.{act_by}
use Rattle.p10_interp.proofs.Turned.{selects}
use Rattle.p10_interp.proofs.turns.select.Goals as goal

pub returns-in-Switch : goal.returns-in-Switch
returns-in-Switch c = λ p w f calls e.
    act_by p _ _ _ _ _ _ _ _ _ (selects c.args.statement.now.at c.args.statement.now.form _ _ _ _ c.in-Switch.is ∙ ap (λ (x : Stmt). select (plain_labels c.in-Switch.labels) (plain_statement x)) (sym c.deref.ensures)) (c.select_by.ensures p w f calls e)
