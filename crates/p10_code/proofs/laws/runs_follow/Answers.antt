use Rattle.p10_code.proofs.Following.{runs_follow}
use Rattle.p10_code.proofs.laws.runs_follow.Goals as goal

pub returns : goal.returns
returns c = runs_follow
