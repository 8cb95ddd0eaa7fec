use Rattle.p10_touched_renaming.proofs.Touched.{touched_renamed}
use Rattle.p10_touched_renaming.proofs.laws.touched_renamed.Goals as goal

pub returns : goal.returns
returns c = touched_renamed
