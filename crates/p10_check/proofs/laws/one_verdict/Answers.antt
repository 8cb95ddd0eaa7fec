use Rattle.p10_check.proofs.Holding.{one_verdict}
use Rattle.p10_check.proofs.laws.one_verdict.Goals as goal

pub returns : goal.returns
returns c = one_verdict
