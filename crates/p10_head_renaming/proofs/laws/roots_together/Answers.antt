use Rattle.p10_head_renaming.proofs.Together.{roots_together}
use Rattle.p10_head_renaming.proofs.laws.roots_together.Goals as goal

pub returns : goal.returns
returns c = roots_together
