use Rattle.p10_spelling_laws.proofs.Telling.{same_words_same_trees}
use Rattle.p10_spelling_laws.proofs.laws.same_words_same_trees.Goals as goal

pub returns : goal.returns
returns c = same_words_same_trees
