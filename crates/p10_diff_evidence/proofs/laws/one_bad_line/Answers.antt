use Rattle.p10_diff_evidence.proofs.Placed.{one_bad}
use Rattle.p10_diff_evidence.proofs.laws.one_bad_line.Goals as goal

pub returns : goal.returns
returns c = one_bad
