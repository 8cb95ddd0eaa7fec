use Rattle.p10_counterpart_renaming.proofs.Counterparts.{counterparts_renamed}
use Rattle.p10_counterpart_renaming.proofs.laws.counterparts_renamed.Goals as goal

pub returns : goal.returns
returns c = counterparts_renamed
