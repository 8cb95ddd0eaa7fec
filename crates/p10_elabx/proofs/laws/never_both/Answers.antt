use Rattle.p10_elabx.proofs.Answered.{not_both}
use Rattle.p10_elabx.proofs.laws.never_both.Goals as goal

pub returns : goal.returns
returns c = not_both
