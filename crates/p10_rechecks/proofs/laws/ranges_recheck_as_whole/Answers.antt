use Rattle.p10_rechecks.proofs.Wholly.{ranges_recheck_as_whole}
use Rattle.p10_rechecks.proofs.laws.ranges_recheck_as_whole.Goals as goal

pub returns : goal.returns
returns c = ranges_recheck_as_whole
