use Rattle.p10_diff.proofs.Lists.{item_is, again_next, again_end}
use Rattle.p10_diff.proofs.listed.copied.Goals as goal

pub loop-x-preserved : goal.loop-x-preserved
loop-x-preserved c = again_next c.args.bounds.now c.loop-x.all.items c.put_unless.new.left.items _ c.loop-x.x-index _ c.loop-x-test.true (item_is c.args.bounds.now c.loop-x.x-index _ c.loop-x-test.true) c.loop-x.invariant c.in_ok-put_unless.ensures

pub returns : goal.returns
returns c = again_end c.args.bounds.now c.loop-x.all.items _ c.loop-x.x-index c.loop-x-test.false c.loop-x.invariant
