use Rattle.std.proofs.Common.{◌∙◌, ap}
use Rattle.std.specs.Prelude.{true}
use Rattle.p10_base.specs.declared.codes.SubsetCode.TheVariants as subset
use Rattle.p10_syn.specs.Built.{identifier_of}
use Rattle.p10_syn.specs.BuiltStatements.{initial_of}
use Rattle.p10_elabx.specs.First.{only_first}
use Rattle.p10_elabd.specs.Standing.{refusing}
use Rattle.p10_elabd.specs.Views.{plain_standing}
use Rattle.p10_elabs.specs.LocalDeclarations.{no_items}
use Rattle.p10_elabs.specs.LocalViews.{plain_local}
use Rattle.p10_elabs.specs.Locals.{no_initializer, unknown_in, with_standing}
use Rattle.p10_elabs.proofs.declarations.prototype_passed.Goals as goal

pub returns : goal.returns
returns c =
    let named = c.in_ok-unknown_in.ensures
    ∙ ap (unknown_in only_first (identifier_of c.args.name)) (c.refuse.ensures ∙ ap (λ at. refusing only_first true subset.BadSpecifier at (plain_standing c.args.local.now.standing)) c.declarator_place-place.ensures) in
    let all = c.in_ok-no_initializer.ensures ∙ ap (no_initializer only_first (initial_of c.args.d.now.init)) named in
    λ i. no_items (with_standing (plain_local c.args.local.now) (all i))
