use Rattle.p10_elabs.proofs.ItemKinds.{items_are_those_written}
use Rattle.p10_elabs.proofs.laws.items_are_those_written.Goals as goal

pub returns : goal.returns
returns c = items_are_those_written
