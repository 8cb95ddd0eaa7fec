use Rattle.p10_refusals.proofs.RepeatedLabels.{repeated_labels_are_told}
use Rattle.p10_refusals.proofs.laws.repeated_labels_are_told.Goals as goal

pub returns : goal.returns
returns c = repeated_labels_are_told
