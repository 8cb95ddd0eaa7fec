-- Structures that are built stay so over declarations and functions outside of functions.
use Rattle.p10_root_steps.proofs.Each.{each_root}
use Rattle.p10_root_steps.proofs.Passing.{over_external}
use Rattle.p10_built_structures.specs.Laws.{ExternalsStayBuilt}
use Rattle.p10_built_structures.proofs.Building.{building_outside}

pub externals_stay_built : ExternalsStayBuilt
externals_stay_built h heads k e = (each_root (building_outside h) (over_external h heads k e)).built
