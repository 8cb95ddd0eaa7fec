use Rattle.p10_sums.proofs.Frames.{bytes_sum, counts_start, counts_next, counts_end}
use Rattle.p10_sums.proofs.functions.frame_bytes.Goals as goal

pub loop-variable-init : goal.loop-variable-init
loop-variable-init c = counts_start (bytes_sum c.args.variables.now)

pub loop-variable-preserved : goal.loop-variable-preserved
loop-variable-preserved c = counts_next _ _ _ c.args.variables.now c.loop-variable.variable-index c.variable-item.result c.loop-variable-test.true c.variable-item.is c.plus-total.ensures c.loop-variable.invariant

pub returns : goal.returns
returns c = counts_end _ _ c.args.variables.now c.loop-variable.variable-index c.loop-variable-test.false c.loop-variable.invariant
