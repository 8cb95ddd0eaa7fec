use Rattle.p10_root_renaming.proofs.Functions.{definitions_renamed}
use Rattle.p10_root_renaming.proofs.laws.definitions_renamed.Goals as goal

pub returns : goal.returns
returns c = definitions_renamed
