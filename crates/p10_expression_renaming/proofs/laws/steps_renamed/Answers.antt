use Rattle.p10_expression_renaming.proofs.Assigning.{steps_renamed}
use Rattle.p10_expression_renaming.proofs.laws.steps_renamed.Goals as goal

pub returns : goal.returns
returns c = steps_renamed
