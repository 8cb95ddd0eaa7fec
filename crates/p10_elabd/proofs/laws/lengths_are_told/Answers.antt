use Rattle.p10_elabd.proofs.TellingLengths.{lengths_are_told}
use Rattle.p10_elabd.proofs.laws.lengths_are_told.Goals as goal

pub returns : goal.returns
returns c = lengths_are_told
