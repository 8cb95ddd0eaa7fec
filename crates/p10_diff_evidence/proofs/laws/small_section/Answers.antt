use Rattle.p10_diff_evidence.proofs.Small.{small_section}
use Rattle.p10_diff_evidence.proofs.laws.small_section.Goals as goal

pub returns : goal.returns
returns c = small_section
