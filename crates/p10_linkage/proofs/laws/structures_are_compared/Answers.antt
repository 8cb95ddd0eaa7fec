use Rattle.p10_linkage.proofs.Agreements.{structures_are_compared}
use Rattle.p10_linkage.proofs.laws.structures_are_compared.Goals as goal

pub returns : goal.returns
returns c = structures_are_compared
