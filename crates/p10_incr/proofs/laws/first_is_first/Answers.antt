use Rattle.p10_incr.proofs.FirstFound.{first_is_first}
use Rattle.p10_incr.proofs.laws.first_is_first.Goals as goal

pub returns : goal.returns
returns c = first_is_first
