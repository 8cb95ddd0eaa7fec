use Rattle.p10_expand.proofs.Answering.{one_answered}
use Rattle.p10_expand.proofs.expansion.condition.answer.Goals as goal

pub loop-place-preserved : goal.loop-place-preserved
loop-place-preserved c =
    let goes = one_answered _ _ _ _ _ _ _ c.loop-place-test.true c.in_ok-behind.ensures c.loop-place.invariant.same in
    record { within = goes.within; same = goes.same }
