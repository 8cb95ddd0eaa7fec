use Rattle.p10_declaration_renaming.proofs.Initializing.{initializers_renamed}
use Rattle.p10_declaration_renaming.proofs.laws.initializers_renamed.Goals as goal

pub returns : goal.returns
returns c = initializers_renamed
