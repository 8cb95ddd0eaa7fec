use Rattle.p10_direct.proofs.Truths.{one_condition}
use Rattle.p10_direct.proofs.condition.one_condition.Goals as goal

pub returns : goal.returns
returns c = one_condition
