use Rattle.p10_declaration_renaming.proofs.Declaring.{specifiers_renamed}
use Rattle.p10_declaration_renaming.proofs.laws.specifiers_renamed.Goals as goal

pub returns : goal.returns
returns c = specifiers_renamed
