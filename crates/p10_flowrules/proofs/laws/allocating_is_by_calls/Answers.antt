use Rattle.p10_flowrules.proofs.Allocations.{allocating_is_by_calls}
use Rattle.p10_flowrules.proofs.laws.allocating_is_by_calls.Goals as goal

pub returns : goal.returns
returns c = allocating_is_by_calls
