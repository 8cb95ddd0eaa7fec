use Rattle.p10_linkage.proofs.Agreements.{lists_are_compared}
use Rattle.p10_linkage.proofs.laws.lists_are_compared.Goals as goal

pub returns : goal.returns
returns c = lists_are_compared
