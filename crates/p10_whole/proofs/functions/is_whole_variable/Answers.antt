use Rattle.p10_whole.proofs.Assembling.{variable_is}
use Rattle.p10_whole.proofs.functions.is_whole_variable.Goals as goal

pub returns : goal.returns
returns c = variable_is _ _ _ _ c.has_size-bytes.ensures c.is_scalar.ensures
