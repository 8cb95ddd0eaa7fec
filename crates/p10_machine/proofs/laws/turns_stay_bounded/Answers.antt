use Rattle.p10_machine.proofs.Bounded.{turns_stay_bounded}
use Rattle.p10_machine.proofs.laws.turns_stay_bounded.Goals as goal

pub returns : goal.returns
returns c = turns_stay_bounded
