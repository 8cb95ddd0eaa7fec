use Rattle.p10_macros.proofs.Fronts.{fronts_give}
use Rattle.p10_macros.proofs.expansion.front_gives.Goals as goal

pub returns : goal.returns
returns c = fronts_give
