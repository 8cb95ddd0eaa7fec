use Rattle.p10_spelling_laws.proofs.Aligning.{runs_tell_trees}
use Rattle.p10_spelling_laws.proofs.laws.runs_tell_trees.Goals as goal

pub returns : goal.returns
returns c = runs_tell_trees
