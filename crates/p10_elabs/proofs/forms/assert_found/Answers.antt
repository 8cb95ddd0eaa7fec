use Rattle.std.proofs.Common.{◌∙◌, ap, refl}
use Rattle.p10_core.specs.declared.typed.Library.TheVariants.{Assert}
use Rattle.p10_elabx.specs.PlainScopes.{plain_scope}
use Rattle.p10_elabs.proofs.FormParts.{assert_is}
use Rattle.p10_elabs.proofs.forms.assert_found.Goals as goal

pub returns : goal.returns
returns c =
    c.in_ok-found.ensures ∙ assert_is (plain_scope c.args.scope.now) c.args.at c.args.name_at c.args.all.now _ _ _ refl c.wanted_of-wants.ensures c.in_ok-list.ensures
