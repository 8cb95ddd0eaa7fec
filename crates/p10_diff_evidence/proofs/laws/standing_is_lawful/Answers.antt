use Rattle.p10_diff_evidence.proofs.Whole.{standing_lawful}
use Rattle.p10_diff_evidence.proofs.laws.standing_is_lawful.Goals as goal

pub returns : goal.returns
returns c = standing_lawful c.ranges_are_lawful.ensures c.differences_are_lawful.ensures
