use Rattle.p10_diff_evidence.proofs.Placed.{same_ranks}
use Rattle.p10_diff_evidence.proofs.laws.one_list_of_ranks.Goals as goal

pub returns : goal.returns
returns c = same_ranks
