use Rattle.p10_linkage.proofs.Agreements.{types_are_compatible_with_themselves}
use Rattle.p10_linkage.proofs.laws.types_are_compatible_with_themselves.Goals as goal

pub returns : goal.returns
returns c = types_are_compatible_with_themselves
