use Rattle.p10_check.proofs.TextVerdicts.{plain_text_is_checked}
use Rattle.p10_check.proofs.laws.plain_text_is_checked.Goals as goal

pub returns : goal.returns
returns c = plain_text_is_checked
