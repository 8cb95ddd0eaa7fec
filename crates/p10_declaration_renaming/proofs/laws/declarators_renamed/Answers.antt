use Rattle.p10_declaration_renaming.proofs.Declaring.{declarators_renamed}
use Rattle.p10_declaration_renaming.proofs.laws.declarators_renamed.Goals as goal

pub returns : goal.returns
returns c = declarators_renamed
