use Rattle.std.proofs.Common.{arith}
use Rattle.p10_direct.proofs.Repeats.{further, last, ends}
use Rattle.p10_direct.proofs.definition.read_further.Goals as goal

pub loop-place-preserved : goal.loop-place-preserved
loop-place-preserved c = record {
  within = omega arith;
  so_far = further _ _ _ _ _ c.loop-place.invariant.within c.in-Further.ensures c.in_ok-push-in-Further.ensures.ok c.loop-place.invariant.so_far;
}

pub returns-in-Last : goal.returns-in-Last
returns-in-Last c = last _ _ _ _ _ c.loop-place-test.true c.in-Last.ensures c.in_ok-push-in-Last.ensures.ok c.loop-place.invariant.so_far

pub returns : goal.returns
returns c = ends _ _ _ c.loop-place-test.false c.loop-place.invariant.so_far
