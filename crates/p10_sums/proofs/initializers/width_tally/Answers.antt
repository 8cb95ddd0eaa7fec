use Rattle.p10_sums.proofs.Adding.{steps_once}
use Rattle.p10_sums.proofs.initializers.width_tally.Goals as goal

pub returns : goal.returns
returns c = steps_once _ _ _ c.capped_width.ensures c.some_steps.ensures
