use Rattle.p10_root_renaming.proofs.Whole.{roots_renamed}
use Rattle.p10_root_renaming.proofs.laws.roots_renamed.Goals as goal

pub returns : goal.returns
returns c = roots_renamed
