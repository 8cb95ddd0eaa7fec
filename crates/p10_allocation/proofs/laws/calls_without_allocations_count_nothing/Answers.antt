use Rattle.p10_allocation.proofs.Runs.{calls_without_allocations_count_nothing}
use Rattle.p10_allocation.proofs.laws.calls_without_allocations_count_nothing.Goals as goal

pub returns : goal.returns
returns c = calls_without_allocations_count_nothing
