use Rattle.p10_allocation.proofs.Computed.{small_programs_allocate}
use Rattle.p10_allocation.proofs.laws.small_programs_allocate.Goals as goal

pub returns : goal.returns
returns c = small_programs_allocate
