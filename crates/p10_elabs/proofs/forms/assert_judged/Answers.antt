use Rattle.std.proofs.Common.{◌∙◌, ap, refl, Ok}
use Rattle.p10_core.specs.Views.{plain_values}
use Rattle.p10_elabx.specs.First.{lift, problems}
use Rattle.p10_elabx.specs.Built.{ruled_values, ruled_form, plain_listed}
use Rattle.p10_elabs.proofs.FormParts.{listing, unless_is, assert_with, assert_refused}
use Rattle.p10_elabs.proofs.forms.assert_judged.Goals as goal

pub returns-in_ok-seen-in-Ok : goal.returns-in_ok-seen-in-Ok
returns-in_ok-seen-in-Ok c =
    assert_with c.args.at c.args.name_at c.args.count (plain_listed c.args.list) _ (plain_values c.in-Ok.values.items) _ _ _
    (ap (λ x. lift (ruled_form x)) c.unless_refused.ensures ∙ unless_is _ _) c.asserted.ensures c.in_ok-seen-in-Ok.ensures
    (ap (λ xs. listing (Ok (plain_values xs)) (plain_listed c.args.list)) c.new.ensures.items) (ap (λ x. lift (ruled_values x)) c.in-Ok.is)

pub returns-in_ok-seen-in-Err : goal.returns-in_ok-seen-in-Err
returns-in_ok-seen-in-Err c =
    assert_refused c.args.at c.args.name_at c.args.count (plain_listed c.args.list) _ (problems c.in-Err.r) _ _
    (ap (λ x. lift (ruled_form x)) c.unless_refused-in-Err.ensures ∙ unless_is _ _) c.in_ok-seen-in-Err.ensures refl (ap (λ x. lift (ruled_values x)) c.in-Err.is)
