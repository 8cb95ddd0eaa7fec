use Rattle.p10_wholeness.proofs.Knowing.{whole_trees_stay}
use Rattle.p10_wholeness.proofs.laws.whole_trees_stay.Goals as goal

pub returns : goal.returns
returns c = whole_trees_stay
