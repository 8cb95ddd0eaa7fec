use Rattle.std.proofs.Common.{arith}
use Rattle.p10_direct.proofs.Cuts.{lines_more, lines_all}
use Rattle.p10_direct.proofs.cut.lines.Goals as goal

pub loop-place-preserved : goal.loop-place-preserved
loop-place-preserved c = record {
  within = omega arith;
  so_far = lines_more _ _ _ _ _ _ c.loop-place.invariant.within c.first_line.ensures.value c.in_ok-push.ensures.ok c.loop-place.invariant.so_far;
}

pub returns-clause-cut : goal.returns-clause-cut
returns-clause-cut c = lines_all _ _ _ c.loop-place-test.false c.loop-place.invariant.so_far
