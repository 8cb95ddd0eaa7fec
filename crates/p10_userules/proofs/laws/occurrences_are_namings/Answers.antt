use Rattle.p10_userules.proofs.Namings.{statements_are}
use Rattle.p10_userules.proofs.laws.occurrences_are_namings.Goals as goal

pub returns : goal.returns
returns c = statements_are
