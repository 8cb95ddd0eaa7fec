use Rattle.p10_elab.proofs.TellingNames.{nameless_parameters_are_told}
use Rattle.p10_elab.proofs.laws.nameless_parameters_are_told.Goals as goal

pub returns : goal.returns
returns c = nameless_parameters_are_told
