use Rattle.std.proofs.Common.{arith}
use Rattle.p10_digests.proofs.Steps.{one_past, all_past, not_past}
use Rattle.p10_digests.proofs.outside.advance.Goals as goal

pub loop-next-preserved : goal.loop-next-preserved
loop-next-preserved c = record {
  inside = omega (arith, c.loop-next-test.true);
  ahead = one_past _ c.args.bodies.now c.loop-next.next c.args.number _ c.loop-next-test.true c.if-bodies-next.true c.loop-next.invariant.ahead;
}

pub returns-after-loop-next-clause-from : goal.returns-after-loop-next-clause-from
returns-after-loop-next-clause-from c = all_past c.args.bodies.now c.loop-next.next c.args.number _ c.loop-next-test.false c.loop-next.invariant.ahead

pub returns-else-bodies-next-clause-from : goal.returns-else-bodies-next-clause-from
returns-else-bodies-next-clause-from c = not_past _ c.args.bodies.now c.loop-next.next c.args.number _ c.loop-next-test.true c.if-bodies-next.false c.loop-next.invariant.ahead
