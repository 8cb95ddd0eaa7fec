use Rattle.p10_elabx.proofs.WholeTrees.{values_whole_in}
use Rattle.p10_elabx.proofs.laws.values_are_whole.Goals as goal

pub returns : goal.returns
returns c = values_whole_in
