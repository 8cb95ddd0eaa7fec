use Rattle.p10_flowrules.proofs.Allocations.{late_allocations_are_one_list}
use Rattle.p10_flowrules.proofs.laws.late_allocations_are_one_list.Goals as goal

pub returns : goal.returns
returns c = late_allocations_are_one_list
