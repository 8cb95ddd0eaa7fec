use Rattle.p10_elabx.proofs.Answered.{one_tree}
use Rattle.p10_elabx.proofs.laws.typed_trees_are_unique.Goals as goal

pub returns : goal.returns
returns c = one_tree
