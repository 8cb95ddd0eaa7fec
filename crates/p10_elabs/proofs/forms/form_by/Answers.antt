use Rattle.p10_elabx.specs.PlainScopes.{plain_scope}
use Rattle.p10_elabs.proofs.FormParts.{call_arm}
use Rattle.p10_elabs.proofs.forms.form_by.Goals as goal

pub returns-in_ok-found-in-Call : goal.returns-in_ok-found-in-Call
returns-in_ok-found-in-Call c =
    call_arm (plain_scope c.args.scope.now) c.args.e.now c.in-Call.f c.in-Call.all _ _ _ c.in-Call.is c.deref-in-Call.ensures.value c.deref-in-Call-2.ensures c.in_ok-found-in-Call.ensures
