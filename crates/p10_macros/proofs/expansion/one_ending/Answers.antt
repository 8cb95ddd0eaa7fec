use Rattle.p10_macros.proofs.OneEnding.{one_ending}
use Rattle.p10_macros.proofs.expansion.one_ending.Goals as goal

pub returns : goal.returns
returns c = one_ending
