use Rattle.p10_direct.proofs.Outcomes.{one_outcome}
use Rattle.p10_direct.proofs.read.one_outcome.Goals as goal

pub returns : goal.returns
returns c = one_outcome
