use Rattle.p10_diff.proofs.Holding.{block_changes, loop_changes}
use Rattle.p10_diff.proofs.changes.+changing.Goals as goal

pub may_change-returns-in-Block : goal.may_change-returns-in-Block
may_change-returns-in-Block t c = block_changes c.args.n c.args.s.now.form c.in-Block.items c.as_slice.result.now c.any_may_change.result c.in-Block.is c.as_slice.ensures c.any_may_change.ensures

pub may_change-returns-in-Loop : goal.may_change-returns-in-Loop
may_change-returns-in-Loop t c =
    loop_changes c.args.n c.args.s.now.form c.in-Loop.field-0 c.in-Loop.first c.in-Loop.field-2 c.in-Loop.third c.in-Loop.body c.as_slice-in-Loop.result.now c.as_slice-in-Loop-2.result.now c.deref-in-Loop.result.now
    c.any_may_change-in-Loop.result c.any_may_change-in-Loop-2.result c.may_change-in-Loop.result c.any_of_three.result
    c.in-Loop.is c.as_slice-in-Loop.ensures c.as_slice-in-Loop-2.ensures c.deref-in-Loop.ensures c.any_may_change-in-Loop.ensures c.any_may_change-in-Loop-2.ensures c.may_change-in-Loop.ensures c.any_of_three.ensures
