use Rattle.p10_diff_evidence.proofs.Whole.{one_first_other}
use Rattle.p10_diff_evidence.proofs.laws.one_first_other.Goals as goal

pub returns : goal.returns
returns c = one_first_other
