use Rattle.p10_loopless.proofs.Sums.{same_effects}
use Rattle.p10_loopless.proofs.laws.same_effects.Goals as goal

pub returns : goal.returns
returns c = same_effects
