use Rattle.p10_elabx.proofs.Answered.{one_first}
use Rattle.p10_elabx.proofs.laws.the_first_is_one.Goals as goal

pub returns : goal.returns
returns c = one_first
