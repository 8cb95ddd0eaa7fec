use Rattle.p10_diff.specs.Domain.{only}
use Rattle.p10_diff.proofs.Lists.{marked_next, marked_end}
use Rattle.p10_diff.proofs.listed.without_one.Goals as goal

pub loop-x-preserved : goal.loop-x-preserved
loop-x-preserved c =
    marked_next (only c.args.n) c.args.bounds.now c.loop-x.left.items c.put_unless.new.left.items _ c.loop-x.x-index _ c.names_variable.result
    c.loop-x-test.true c.names_variable.ensures c.loop-x.invariant c.in_ok-put_unless.ensures

pub returns : goal.returns
returns c = marked_end (only c.args.n) c.args.bounds.now c.loop-x.left.items _ c.loop-x.x-index c.loop-x-test.false c.loop-x.invariant
