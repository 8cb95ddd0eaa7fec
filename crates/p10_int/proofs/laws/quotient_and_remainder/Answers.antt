use Rattle.p10_int.proofs.Dividing.{divided}
use Rattle.p10_int.proofs.laws.quotient_and_remainder.Goals as goal

pub returns : goal.returns
returns c = divided
