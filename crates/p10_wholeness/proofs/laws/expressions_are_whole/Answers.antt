use Rattle.p10_wholeness.proofs.Expressions.{expressions_are_whole}
use Rattle.p10_wholeness.proofs.laws.expressions_are_whole.Goals as goal

pub returns : goal.returns
returns c = expressions_are_whole
