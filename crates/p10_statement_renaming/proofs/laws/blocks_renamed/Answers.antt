use Rattle.p10_statement_renaming.proofs.Declarations.{blocks_renamed}
use Rattle.p10_statement_renaming.proofs.laws.blocks_renamed.Goals as goal

pub returns : goal.returns
returns c = blocks_renamed
