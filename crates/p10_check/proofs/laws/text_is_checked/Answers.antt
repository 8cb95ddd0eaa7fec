use Rattle.p10_check.proofs.TextVerdicts.{text_is_checked}
use Rattle.p10_check.proofs.laws.text_is_checked.Goals as goal

pub returns : goal.returns
returns c = text_is_checked
