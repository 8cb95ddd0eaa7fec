use Rattle.p10_check.proofs.Holding.{accepted_hold}
use Rattle.p10_check.proofs.laws.accepted_hold.Goals as goal

pub returns : goal.returns
returns c = accepted_hold
