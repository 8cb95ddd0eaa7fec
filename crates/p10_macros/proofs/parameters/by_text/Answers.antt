use Rattle.std.proofs.Common.{arith}
use Rattle.p10_macros.proofs.ByParameter.{has_more}
use Rattle.p10_macros.proofs.parameters.by_text.Goals as goal

pub loop-place-preserved : goal.loop-place-preserved
loop-place-preserved c = record {
  inside = omega arith;
  has = has_more c.loop-place.by_text c.insert.new.self c.args.params.now c.loop-place.place _ c.loop-place-test.true c.loop-place.invariant.inside c.loop-place.invariant.has c.in_ok-insert.ensures.updates;
}
