use Rattle.p10_check.proofs.TextVerdicts.{one_text_verdict}
use Rattle.p10_check.proofs.laws.one_text_verdict.Goals as goal

pub returns : goal.returns
returns c = one_text_verdict
