use Rattle.p10_front.proofs.Once.{reads_once}
use Rattle.p10_front.proofs.laws.one_reading.Goals as goal

pub returns : goal.returns
returns c = reads_once c.expands_to_once.ensures c.one_list_of_units.ensures c.no_fault_where_spelled.ensures c.one_fault.ensures
