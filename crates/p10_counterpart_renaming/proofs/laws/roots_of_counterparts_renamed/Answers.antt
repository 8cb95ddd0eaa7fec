use Rattle.p10_counterpart_renaming.proofs.Roots.{roots_of_counterparts_renamed}
use Rattle.p10_counterpart_renaming.proofs.laws.roots_of_counterparts_renamed.Goals as goal

pub returns : goal.returns
returns c = roots_of_counterparts_renamed
