use Rattle.p10_diff_evidence.proofs.Visible.{sections_say}
use Rattle.p10_diff_evidence.proofs.laws.rank_sections_say.Goals as goal

pub returns : goal.returns
returns c = sections_say
