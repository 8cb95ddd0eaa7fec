use Rattle.p10_syn.specs.Built.{expression_of}
use Rattle.p10_elabx.specs.PlainScopes.{plain_scope}
use Rattle.p10_elabs.proofs.FormParts.{by_form}
use Rattle.p10_elabs.proofs.forms.form_found.Goals as goal

pub returns : goal.returns
returns c = by_form (plain_scope c.args.scope.now) (expression_of c.args.e.now) _ c.in_ok-found.ensures
