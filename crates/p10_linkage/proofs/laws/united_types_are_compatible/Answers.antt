use Rattle.p10_linkage.proofs.UnitedAlike.{united_types_are_compatible}
use Rattle.p10_linkage.proofs.laws.united_types_are_compatible.Goals as goal

pub returns : goal.returns
returns c = united_types_are_compatible
