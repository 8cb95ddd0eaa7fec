use Rattle.p10_whole.proofs.Updating.{update_is}
use Rattle.p10_whole.proofs.assignments.updates.Goals as goal

pub returns : goal.returns
returns c = update_is _ _ _ _ _ _ _ _ _ _ _ _ c.is_whole_place.ensures c.is_whole_value.ensures c.is_scalar.ensures c.is_modifiable.ensures c.is_step.ensures c.types_agree.ensures
