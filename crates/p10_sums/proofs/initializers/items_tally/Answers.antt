use Rattle.p10_sums.specs.private.Tallies.{counting_by}
use Rattle.p10_sums.proofs.Rows.{started, counted_on, items_start, items_next, items_end}
use Rattle.p10_sums.proofs.initializers.items_tally.Goals as goal

pub loop-item-init : goal.loop-item-init
loop-item-init c = started _ _ _ c.no_tally-total.ensures (items_start (counting_by c.args.basis.now) c.args.all.now)

pub loop-item-preserved : goal.loop-item-preserved
loop-item-preserved c = counted_on _ _ _ _ _ _ c.in_turn-total.ensures c.written_tally.ensures
    (items_next (counting_by c.args.basis.now) _ _ c.args.all.now c.loop-item.item-index c.item-item.result c.loop-item-test.true c.item-item.is c.loop-item.invariant)

pub returns : goal.returns
returns c = items_end (counting_by c.args.basis.now) _ _ c.args.all.now c.loop-item.item-index c.loop-item-test.false c.loop-item.invariant
