use Rattle.p10_expand.proofs.Known.{files_are_known}
use Rattle.p10_expand.proofs.laws.files_are_known.Goals as goal

pub returns : goal.returns
returns c = files_are_known
