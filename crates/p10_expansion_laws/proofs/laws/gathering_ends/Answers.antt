use Rattle.p10_expansion_laws.proofs.GatheringEnds.{gathering_ends}
use Rattle.p10_expansion_laws.proofs.laws.gathering_ends.Goals as goal

pub returns : goal.returns
returns c = gathering_ends
