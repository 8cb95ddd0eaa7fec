use Rattle.p10_linkage.proofs.ComparedWell.{compared_types_are_compatible}
use Rattle.p10_linkage.proofs.laws.compared_types_are_compatible.Goals as goal

pub returns : goal.returns
returns c = compared_types_are_compatible
