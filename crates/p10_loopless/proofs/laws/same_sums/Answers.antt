use Rattle.p10_loopless.proofs.Sums.{same_sums}
use Rattle.p10_loopless.proofs.laws.same_sums.Goals as goal

pub returns : goal.returns
returns c = same_sums
