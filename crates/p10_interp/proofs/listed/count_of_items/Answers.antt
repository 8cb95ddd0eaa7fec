-- The values of the next item are counted.
use Rattle.std.proofs.Common.{map, arith}
use Rattle.p10_core.specs.Views.{plain_item}
use Rattle.p10_interp.specs.private.Operations.{count_of_items}
use Rattle.p10_interp.proofs.Filled.{items_counted, all_counted}
use Rattle.p10_interp.proofs.listed.count_of_items.Goals as goal

pub loop-place-preserved : goal.loop-place-preserved
loop-place-preserved c = (
  omega (arith, c.loop-place.invariant.0, c.count_written-count.ensures.most),
  items_counted c.args.items.now c.loop-place.place c.loop-place.count c.count_written-count.result (count_of_items (map plain_item c.args.items.now)) c.index-items-place.result c.loop-place-test.true c.index-items-place.is c.loop-place.invariant.1 c.count_written-count.ensures.adds,
)

pub returns : goal.returns
returns c = all_counted c.args.items.now c.loop-place.place c.loop-place.count (count_of_items (map plain_item c.args.items.now)) (omega (arith, c.loop-place-test.false)) c.loop-place.invariant.1
