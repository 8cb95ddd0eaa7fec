use Rattle.p10_calls.proofs.Existence.{ranks_mean_no_recursion}
use Rattle.p10_calls.proofs.laws.ranks_mean_no_recursion.Goals as goal

pub returns : goal.returns
returns c = ranks_mean_no_recursion
