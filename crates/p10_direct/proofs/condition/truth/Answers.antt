use Rattle.p10_direct.proofs.Truths.{truth_holds, truth_fails}
use Rattle.p10_direct.proofs.condition.truth.Goals as goal

pub returns-clause-holds : goal.returns-clause-holds
returns-clause-holds c = truth_holds _ _ _ c.is_true.ensures c.number.ensures.value c.number.ensures.shallow

pub returns-clause-fails : goal.returns-clause-fails
returns-clause-fails c = truth_fails _ _ _ c.is_true.ensures c.number.ensures.value
