use Rattle.p10_pexpr.proofs.Unique.{expressions_are_unique}
use Rattle.p10_pexpr.proofs.laws.one_tree.Goals as goal

pub returns : goal.returns
returns c = expressions_are_unique
