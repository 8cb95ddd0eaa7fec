use Rattle.p10_int.proofs.Remainders.{small}
use Rattle.p10_int.proofs.laws.remainders_are_small.Goals as goal

pub returns : goal.returns
returns c = small
