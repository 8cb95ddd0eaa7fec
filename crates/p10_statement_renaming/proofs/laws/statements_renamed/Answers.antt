use Rattle.p10_statement_renaming.proofs.Bodies.{statements_renamed}
use Rattle.p10_statement_renaming.proofs.laws.statements_renamed.Goals as goal

pub returns : goal.returns
returns c = statements_renamed
