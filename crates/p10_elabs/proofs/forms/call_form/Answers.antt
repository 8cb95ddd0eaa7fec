use Rattle.std.specs.Prelude.{map}
use Rattle.std.proofs.Common.{◌∙◌, sym}
use Rattle.p10_syn.specs.Trees.{expression_row}
use Rattle.p10_syn.specs.Built.{expression_of}
use Rattle.p10_elabx.specs.PlainScopes.{plain_scope}
use Rattle.p10_elabs.proofs.FormParts.{assert_made, other_made}
use Rattle.p10_elabs.proofs.forms.call_form.Goals as goal

pub returns-in_ok-found-in-Some : goal.returns-in_ok-found-in-Some
returns-in_ok-found-in-Some c =
    assert_made (plain_scope c.args.scope.now) c.args.at c.in-Some.name_at (expression_row (map expression_of c.args.all.now)) (expression_of c.args.e.now) (expression_of c.args.f.now) _
    (sym c.in-Some.is ∙ c.assert_called.ensures) c.in_ok-found-in-Some.ensures

pub returns-in_ok-found-in-None : goal.returns-in_ok-found-in-None
returns-in_ok-found-in-None c =
    other_made (plain_scope c.args.scope.now) c.args.at (expression_row (map expression_of c.args.all.now)) (expression_of c.args.e.now) (expression_of c.args.f.now) _
    (sym c.in-None.is ∙ c.assert_called.ensures) c.in_ok-found-in-None.ensures
