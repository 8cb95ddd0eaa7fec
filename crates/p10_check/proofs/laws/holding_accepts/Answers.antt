use Rattle.p10_check.proofs.Holding.{holding_accepts}
use Rattle.p10_check.proofs.laws.holding_accepts.Goals as goal

pub returns : goal.returns
returns c = holding_accepts
