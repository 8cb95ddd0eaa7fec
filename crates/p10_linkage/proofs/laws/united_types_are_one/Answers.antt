use Rattle.p10_linkage.proofs.Agreements.{united_types_are_one}
use Rattle.p10_linkage.proofs.laws.united_types_are_one.Goals as goal

pub returns : goal.returns
returns c = united_types_are_one
