use Rattle.p10_evaluation.proofs.WholeFunctions.{values_found, discarded_found}
use Rattle.p10_evaluation.proofs.laws.values_are_found.Goals as goal

pub returns-clause-used : goal.returns-clause-used
returns-clause-used c = values_found

pub returns-clause-discarded : goal.returns-clause-discarded
returns-clause-discarded c = discarded_found
