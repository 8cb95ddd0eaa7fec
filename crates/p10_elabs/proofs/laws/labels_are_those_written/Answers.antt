use Rattle.p10_elabs.proofs.ItemKinds.{labels_are_those_written}
use Rattle.p10_elabs.proofs.laws.labels_are_those_written.Goals as goal

pub returns : goal.returns
returns c = labels_are_those_written
