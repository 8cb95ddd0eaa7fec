use Rattle.p10_linkage.proofs.EachFound.{compatible_types_are_found}
use Rattle.p10_linkage.proofs.laws.compatible_types_are_found.Goals as goal

pub returns : goal.returns
returns c = compatible_types_are_found
