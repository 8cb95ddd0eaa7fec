use Rattle.p10_diff.specs.Knowing.{pair_by, differences_of}
use Rattle.p10_diff.specs.Listed.{bounds_listed}
use Rattle.p10_diff.specs.private.Hulls.{hulled, put_each}
use Rattle.p10_diff.proofs.HulledBounds.{each_next, each_end}
use Rattle.p10_diff.proofs.hulls.put_each.Goals as goal

pub loop-x-preserved : goal.loop-x-preserved
loop-x-preserved c =
    let f = hulled (pair_by c.args.p.now) (differences_of c.args.a.now) (differences_of c.args.b.now) in
    each_next f (bounds_listed c.loop-x.bounds.items) (bounds_listed c.put_once.new.bounds.items) (put_each f (bounds_listed c.args.bounds.now.items) c.args.of.now) c.args.of.now c.loop-x.x-index _
    c.loop-x-test.true c.loop-x.invariant c.in_ok-put_once.ensures

pub returns : goal.returns
returns c =
    let f = hulled (pair_by c.args.p.now) (differences_of c.args.a.now) (differences_of c.args.b.now) in
    each_end f (bounds_listed c.loop-x.bounds.items) (put_each f (bounds_listed c.args.bounds.now.items) c.args.of.now) c.args.of.now c.loop-x.x-index c.loop-x-test.false c.loop-x.invariant
