use Rattle.p10_diff_evidence.proofs.Whole.{section_tells}
use Rattle.p10_diff_evidence.proofs.laws.a_section_tells_its_ranks.Goals as goal

pub returns : goal.returns
returns c = section_tells
