use Rattle.p10_range_laws.proofs.Tests.{tests_are_tight, negated_tests_are_tight}
use Rattle.p10_range_laws.proofs.laws.tests_are_tight.Goals as goal

pub returns-clause-comparisons : goal.returns-clause-comparisons
returns-clause-comparisons c = tests_are_tight

pub returns-clause-negations : goal.returns-clause-negations
returns-clause-negations c = negated_tests_are_tight
