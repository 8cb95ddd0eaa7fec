use Rattle.p10_wholeness.proofs.Building.{structures_stay_built}
use Rattle.p10_wholeness.proofs.laws.structures_stay_built.Goals as goal

pub returns : goal.returns
returns c = structures_stay_built
