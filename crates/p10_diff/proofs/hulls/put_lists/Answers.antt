use Rattle.p10_diff.specs.Knowing.{pair_by, differences_of}
use Rattle.p10_diff.specs.Listed.{bounds_listed}
use Rattle.p10_diff.specs.private.Hulls.{hulled, put_lists}
use Rattle.p10_diff.proofs.HulledBounds.{lists_next, lists_end}
use Rattle.p10_diff.proofs.hulls.put_lists.Goals as goal

pub loop-list-preserved : goal.loop-list-preserved
loop-list-preserved c =
    let f = hulled (pair_by c.args.p.now) (differences_of c.args.a.now) (differences_of c.args.b.now) in
    lists_next f (bounds_listed c.loop-list.bounds.items) (bounds_listed c.put_each.new.bounds.items) (put_lists f (bounds_listed c.args.bounds.now.items) c.args.of.now) c.args.of.now c.loop-list.list-index c.list-item.result c.as_slice.result.now
    c.loop-list-test.true c.list-item.is c.as_slice.ensures c.loop-list.invariant c.in_ok-put_each.ensures

pub returns : goal.returns
returns c =
    let f = hulled (pair_by c.args.p.now) (differences_of c.args.a.now) (differences_of c.args.b.now) in
    lists_end f (bounds_listed c.loop-list.bounds.items) (put_lists f (bounds_listed c.args.bounds.now.items) c.args.of.now) c.args.of.now c.loop-list.list-index c.loop-list-test.false c.loop-list.invariant
