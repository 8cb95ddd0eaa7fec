use Rattle.p10_sums.proofs.Computed.{worked_sums}
use Rattle.p10_sums.proofs.laws.small_programs_cost.Goals as goal

pub returns : goal.returns
returns c = worked_sums
