use Rattle.p10_core.proofs.Bareness.{structures_lie_as_their_members}
use Rattle.p10_core.proofs.laws.structures_lie_as_their_members.Goals as goal

pub returns : goal.returns
returns c = structures_lie_as_their_members
