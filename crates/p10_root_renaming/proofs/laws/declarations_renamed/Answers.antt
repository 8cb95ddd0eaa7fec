use Rattle.p10_root_renaming.proofs.Outside.{declarations_renamed}
use Rattle.p10_root_renaming.proofs.laws.declarations_renamed.Goals as goal

pub returns : goal.returns
returns c = declarations_renamed
