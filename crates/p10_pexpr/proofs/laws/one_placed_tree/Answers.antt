use Rattle.p10_pexpr.proofs.Unique.{placed_trees_are_unique}
use Rattle.p10_pexpr.proofs.laws.one_placed_tree.Goals as goal

pub returns : goal.returns
returns c = placed_trees_are_unique
