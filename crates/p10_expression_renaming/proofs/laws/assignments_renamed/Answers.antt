use Rattle.p10_expression_renaming.proofs.Assigning.{assignments_renamed}
use Rattle.p10_expression_renaming.proofs.laws.assignments_renamed.Goals as goal

pub returns : goal.returns
returns c = assignments_renamed
