use Rattle.p10_range_laws.proofs.Sums.{sums_are_tight, differences_are_tight, negations_are_tight}
use Rattle.p10_range_laws.proofs.laws.sums_are_tight.Goals as goal

pub returns-clause-sums : goal.returns-clause-sums
returns-clause-sums c = sums_are_tight

pub returns-clause-differences : goal.returns-clause-differences
returns-clause-differences c = differences_are_tight

pub returns-clause-negations : goal.returns-clause-negations
returns-clause-negations c = negations_are_tight
