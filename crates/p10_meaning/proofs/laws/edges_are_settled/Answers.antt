use Rattle.p10_meaning.proofs.Computed.{edges_are_settled}
use Rattle.p10_meaning.proofs.laws.edges_are_settled.Goals as goal

pub returns : goal.returns
returns c = edges_are_settled
