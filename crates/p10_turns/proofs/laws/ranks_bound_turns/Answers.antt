use Rattle.p10_turns.proofs.Bounded.{ranks_bound}
use Rattle.p10_turns.proofs.laws.ranks_bound_turns.Goals as goal

pub returns : goal.returns
returns c = ranks_bound
