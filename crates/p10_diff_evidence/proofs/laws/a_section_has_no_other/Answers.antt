use Rattle.p10_diff_evidence.proofs.Whole.{no_other}
use Rattle.p10_diff_evidence.proofs.laws.a_section_has_no_other.Goals as goal

pub returns : goal.returns
returns c = no_other
