use Rattle.p10_range_laws.proofs.Quotients.{shifts_are_tight, quotients_are_tight}
use Rattle.p10_range_laws.proofs.laws.quotients_are_tight.Goals as goal

pub returns-clause-shifts : goal.returns-clause-shifts
returns-clause-shifts c = shifts_are_tight

pub returns-clause-quotients : goal.returns-clause-quotients
returns-clause-quotients c = quotients_are_tight
