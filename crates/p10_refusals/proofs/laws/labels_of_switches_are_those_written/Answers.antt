use Rattle.p10_refusals.proofs.Switches.{labels_of_switches_are_those_written}
use Rattle.p10_refusals.proofs.laws.labels_of_switches_are_those_written.Goals as goal

pub returns : goal.returns
returns c = labels_of_switches_are_those_written
