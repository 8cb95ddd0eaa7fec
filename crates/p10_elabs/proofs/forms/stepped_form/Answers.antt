use Rattle.p10_syn.specs.Built.{expression_of}
use Rattle.p10_elabx.specs.PlainScopes.{plain_scope}
use Rattle.p10_elabs.proofs.FormParts.{stepped_made}
use Rattle.p10_elabs.proofs.forms.stepped_form.Goals as goal

pub returns : goal.returns
returns c =
    stepped_made (plain_scope c.args.scope.now) c.args.at c.args.sign (expression_of c.args.e.now) _ _ _ c.in_ok-target.ensures c.step_of-op.ensures c.in_ok-form.ensures
