-- The next item begins where the one before it has ended, or later.
use Rattle.std.proofs.Common.{map, arith}
use Rattle.p10_core.specs.Views.{plain_item}
use Rattle.p10_machine.specs.Listing.{InOrder}
use Rattle.p10_machine.proofs.Filled.{order_next, order_ends}
use Rattle.p10_machine.proofs.listed.are_in_order.Goals as goal

pub loop-place-preserved : goal.loop-place-preserved
loop-place-preserved c =
    order_next c.args.items.now c.loop-place.place c.loop-place.from c.past_item-from.result c.index-items-place.result (InOrder 0 (map plain_item c.args.items.now)) c.loop-place-test.true c.index-items-place.is (omega (arith, c.if-item-from.false)) c.past_item-from.ensures c.loop-place.invariant

pub returns : goal.returns
returns c = λ e. order_ends c.args.items.now c.loop-place.place c.loop-place.from (InOrder 0 (map plain_item c.args.items.now)) (omega (arith, c.loop-place-test.false)) c.loop-place.invariant
