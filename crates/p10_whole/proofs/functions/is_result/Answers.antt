use Rattle.p10_whole.proofs.Assembling.{result_is}
use Rattle.p10_whole.proofs.functions.is_result.Goals as goal

pub returns : goal.returns
returns c = result_is _ _ _ _ _ c.is_whole_type.ensures c.is_scalar.ensures c.is_void.ensures
