use Rattle.p10_evaluation.proofs.WholeFunctions.{values_make_covered, places_make_covered}
use Rattle.p10_evaluation.proofs.laws.evaluations_make_covered_calls.Goals as goal

pub returns-clause-values : goal.returns-clause-values
returns-clause-values c = values_make_covered

pub returns-clause-places : goal.returns-clause-places
returns-clause-places c = places_make_covered
