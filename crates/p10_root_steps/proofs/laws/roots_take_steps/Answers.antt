use Rattle.p10_root_steps.proofs.Passing.{roots_take_steps}
use Rattle.p10_root_steps.proofs.laws.roots_take_steps.Goals as goal

pub returns : goal.returns
returns c = roots_take_steps
