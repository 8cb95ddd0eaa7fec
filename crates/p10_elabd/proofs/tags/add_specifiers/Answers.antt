use Rattle.std.proofs.Common.{◌∙◌, ap, sym}
use Rattle.p10_elabx.specs.PlainScopes.{plain_scope}
use Rattle.p10_elabx.proofs.TreeRows.{cut_specifiers}
use Rattle.p10_elabd.specs.Tags.{tags_of, with_tags}
use Rattle.p10_elabd.proofs.TagLists.{step_specifiers}
use Rattle.p10_elabd.proofs.tags.add_specifiers.Goals as goal

pub loop-spec-preserved : goal.loop-spec-preserved
loop-spec-preserved c =
    let cut = cut_specifiers c.args.specs.now c.loop-spec.spec-index c.spec-item.result c.loop-spec-test.true c.spec-item.is in
    sym (step_specifiers (plain_scope c.loop-spec.scope) _ _ _ _ cut c.in_ok-add_specifier.ensures) ∙ c.loop-spec.invariant
