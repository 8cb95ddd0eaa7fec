use Rattle.p10_macros.proofs.NoObject.{no_object_is_left}
use Rattle.p10_macros.proofs.expansion.no_object_left.Goals as goal

pub returns : goal.returns
returns c = no_object_is_left
