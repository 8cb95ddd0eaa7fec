use Rattle.p10_elabx.specs.First.{only_first}
use Rattle.p10_heads.proofs.ListRows.{cut_list}
use Rattle.p10_elabs.proofs.Specified.{step_volatile}
use Rattle.p10_elabs.proofs.specifiers.volatile_noted.Goals as goal

pub loop-spec-preserved : goal.loop-spec-preserved
loop-spec-preserved c =
    step_volatile only_first c.args.may c.loop-spec.spec-index c.args.specs.now c.spec-item.result _ _ _ (cut_list c.args.specs.now c.loop-spec.spec-index c.spec-item.result c.loop-spec-test.true c.spec-item.is)
    c.note_volatile.ensures c.loop-spec.invariant
