use Rattle.std.proofs.Common.{◌∙◌, sym, arith}
use Rattle.p10_elabx.proofs.TreeRows.{cut_specifiers}
use Rattle.p10_elabx.proofs.Turns.{step_said}
use Rattle.p10_elabx.proofs.words.said_of.Goals as goal

pub loop-spec-preserved : goal.loop-spec-preserved
loop-spec-preserved c =
    let cut = cut_specifiers c.args.specs.now c.loop-spec.spec-index c.spec-item.result c.loop-spec-test.true c.spec-item.is in
    record {
      said = sym (step_said c.loop-spec.spec-index c.args.specs.now c.spec-item.result _ _ cut c.said_by-said.ensures.value) ∙ c.loop-spec.invariant.said;
      few = omega arith;
    }
