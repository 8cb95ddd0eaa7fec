use Rattle.std.proofs.Common.{sym, ◌∙◌}
use Rattle.p10_elabx.specs.PlainScopes.{plain_scope}
use Rattle.p10_elab.proofs.OpenedBodies.{declared_name}
use Rattle.p10_elab.proofs.body_scopes.declare_in_body.Goals as goal

pub returns-in_ok-declare : goal.returns-in_ok-declare
returns-in_ok-declare c = declared_name (plain_scope c.args.scope.now) _ c.args.name.now _ _ c.in_ok-declare.ensures.ok (sym c.is_tag.ensures ∙ c.if-is_tag.false) c.meaning_in_body-what.ensures
