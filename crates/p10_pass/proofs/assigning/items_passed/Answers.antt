use Rattle.p10_pass.specs.Leaving.{left_of}
use Rattle.p10_pass.specs.Manners.{manner_by}
use Rattle.p10_pass.proofs.PassedLists.{items_next, items_end}
use Rattle.p10_pass.proofs.assigning.items_passed.Goals as goal

pub loop-item-preserved : goal.loop-item-preserved
loop-item-preserved c =
    items_next (manner_by c.args.m.now) _ (left_of c.loop-item.total) (left_of c.go_on_with.new.total) c.args.items.now c.loop-item.item-index c.item-item.result c.loop-item-test.true c.item-item.is c.in_ok-go_on_with.ensures c.loop-item.invariant

pub returns : goal.returns
returns c = items_end (manner_by c.args.m.now) _ (left_of c.loop-item.total) c.args.items.now c.loop-item.item-index c.loop-item-test.false c.loop-item.invariant
