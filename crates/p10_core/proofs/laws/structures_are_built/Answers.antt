use Rattle.p10_core.proofs.Completing.{none_are_built, one_more_is_built, completed_are_built}
use Rattle.p10_core.proofs.laws.structures_are_built.Goals as goal

pub returns-clause-none : goal.returns-clause-none
returns-clause-none c = none_are_built

pub returns-clause-one_more : goal.returns-clause-one_more
returns-clause-one_more c = one_more_is_built

pub returns-clause-completed : goal.returns-clause-completed
returns-clause-completed c = completed_are_built
