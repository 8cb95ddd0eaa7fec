use Rattle.p10_incr.proofs.Deciding.{same_func_decides}
use Rattle.p10_incr.proofs.laws.same_func_decides.Goals as goal

pub returns : goal.returns
returns c = same_func_decides
