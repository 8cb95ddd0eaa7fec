use Rattle.p10_expression_renaming.proofs.Judging.{expressions_renamed}
use Rattle.p10_expression_renaming.proofs.laws.expressions_renamed.Goals as goal

pub returns : goal.returns
returns c = expressions_renamed
