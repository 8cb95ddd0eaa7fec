use Rattle.std.proofs.Common.{◌∙◌, sym}
use Rattle.p10_elabx.specs.PlainScopes.{plain_scope}
use Rattle.p10_elabx.proofs.TreeRows.{cut_specifiers}
use Rattle.p10_elabx.proofs.Turns.{step_specifiers}
use Rattle.p10_elabx.proofs.type_names.specifiers_found.Goals as goal

pub loop-spec-preserved : goal.loop-spec-preserved
loop-spec-preserved c =
    let cut = cut_specifiers c.args.specs.now c.loop-spec.spec-index c.spec-item.result c.loop-spec-test.true c.spec-item.is in
    sym (step_specifiers (plain_scope c.args.scope.now) c.loop-spec.spec-index c.args.specs.now c.spec-item.result _ _ _ cut c.in_ok-one.ensures c.with_specifier-found.ensures) ∙ c.loop-spec.invariant
