use Rattle.p10_syn.specs.Built.{expression_of}
use Rattle.p10_elabx.specs.PlainScopes.{plain_scope}
use Rattle.p10_elabs.proofs.FormParts.{assigned_made}
use Rattle.p10_elabs.proofs.forms.assigned_form.Goals as goal

pub returns : goal.returns
returns c =
    assigned_made (plain_scope c.args.scope.now) c.args.at c.args.sign (expression_of c.args.a.now) (expression_of c.args.b.now) _ _ _ _ c.in_ok-target.ensures c.in_ok-value.ensures c.assignment_of-op.ensures c.in_ok-form.ensures
