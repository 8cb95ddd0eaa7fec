use Rattle.p10_elab.proofs.Cutting.{roots_are_found}
use Rattle.p10_elab.proofs.laws.roots_are_found.Goals as goal

pub returns : goal.returns
returns c = roots_are_found
