use Rattle.p10_finder.proofs.SameBounds.{lacks_same}
use Rattle.p10_finder.proofs.laws.same_loops_lack_bounds.Goals as goal

pub returns : goal.returns
returns c = lacks_same
