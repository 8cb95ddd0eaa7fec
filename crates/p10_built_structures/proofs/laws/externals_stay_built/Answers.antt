use Rattle.p10_built_structures.proofs.BuildingOutside.{externals_stay_built}
use Rattle.p10_built_structures.proofs.laws.externals_stay_built.Goals as goal

pub returns : goal.returns
returns c = externals_stay_built
