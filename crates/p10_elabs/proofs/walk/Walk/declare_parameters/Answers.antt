use Rattle.std.proofs.Common.{◌∙◌, sym}
use Rattle.p10_heads.proofs.ListRows.{cut_list}
use Rattle.p10_elabs.proofs.Walking.{step_parameters}
use Rattle.p10_elabs.proofs.walk.Walk.declare_parameters.Goals as goal

pub loop-parameter-preserved : goal.loop-parameter-preserved
loop-parameter-preserved c =
    sym (step_parameters c.loop-parameter.parameter-index c.args.all.now c.parameter-item.result _ _ (cut_list c.args.all.now c.loop-parameter.parameter-index c.parameter-item.result c.loop-parameter-test.true c.parameter-item.is) c.in_ok-declare_parameter.ensures)
    ∙ c.loop-parameter.invariant
