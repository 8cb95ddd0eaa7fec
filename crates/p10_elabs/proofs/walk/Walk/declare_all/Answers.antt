use Rattle.std.proofs.Common.{◌∙◌, sym}
use Rattle.p10_heads.proofs.ListRows.{cut_list}
use Rattle.p10_elabs.proofs.Walking.{step_declarators}
use Rattle.p10_elabs.proofs.walk.Walk.declare_all.Goals as goal

pub loop-d-preserved : goal.loop-d-preserved
loop-d-preserved c =
    sym (step_declarators c.args.storage c.loop-d.d-index c.args.all.now c.d-item.result _ _ _ (cut_list c.args.all.now c.loop-d.d-index c.d-item.result c.loop-d-test.true c.d-item.is) c.in_ok-declare.ensures c.in_ok-take_initial.ensures)
    ∙ c.loop-d.invariant
