use Rattle.p10_agreement.proofs.Looking.{gathered_alike, one_other_may_differ}
use Rattle.p10_agreement.proofs.laws.gathering_goes_by_what_it_looks_for.Goals as goal

pub returns-clause-gathered : goal.returns-clause-gathered
returns-clause-gathered c = gathered_alike

pub returns-clause-other : goal.returns-clause-other
returns-clause-other c = one_other_may_differ
