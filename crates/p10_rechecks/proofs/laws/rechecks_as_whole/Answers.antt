use Rattle.p10_rechecks.proofs.Wholly.{rechecks_as_whole}
use Rattle.p10_rechecks.proofs.laws.rechecks_as_whole.Goals as goal

pub returns : goal.returns
returns c = rechecks_as_whole
