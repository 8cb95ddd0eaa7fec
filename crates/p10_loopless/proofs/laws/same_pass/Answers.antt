use Rattle.p10_loopless.proofs.Bodies.{same_pass}
use Rattle.p10_loopless.proofs.laws.same_pass.Goals as goal

pub returns : goal.returns
returns c = same_pass
