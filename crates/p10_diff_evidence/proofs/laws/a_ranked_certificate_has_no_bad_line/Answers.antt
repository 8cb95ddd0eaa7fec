use Rattle.p10_diff_evidence.proofs.Placed.{no_bad}
use Rattle.p10_diff_evidence.proofs.laws.a_ranked_certificate_has_no_bad_line.Goals as goal

pub returns : goal.returns
returns c = no_bad
