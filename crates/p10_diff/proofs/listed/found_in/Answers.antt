use Rattle.p10_diff.specs.Listed.{name_of}
use Rattle.p10_diff.proofs.Lists.{found_next, found_end}
use Rattle.p10_diff.proofs.listed.found_in.Goals as goal

pub loop-x-preserved : goal.loop-x-preserved
loop-x-preserved c = found_next c.args.bounds.now c.loop-x.x-index _ (name_of c.args.u) (name_of c.args.w) c.loop-x.last c.found_up_to-last.result _ c.loop-x-test.true c.loop-x.invariant c.found_up_to-last.ensures

pub returns : goal.returns
returns c = found_end c.args.bounds.now c.loop-x.x-index (name_of c.args.u) (name_of c.args.w) c.loop-x.last _ c.loop-x-test.false c.loop-x.invariant
