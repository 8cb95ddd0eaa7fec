use Rattle.p10_acceptance.proofs.Accepting.{supported_hold, derived_hold, derived_are_accepted, derived_bound}
use Rattle.p10_acceptance.proofs.laws.derived_certificates_are_accepted.Goals as goal

pub returns-clause-hold : goal.returns-clause-hold
returns-clause-hold c = derived_hold

pub returns-clause-accepted : goal.returns-clause-accepted
returns-clause-accepted c = derived_are_accepted

pub returns-clause-bounds : goal.returns-clause-bounds
returns-clause-bounds c = derived_bound

pub returns-clause-supported : goal.returns-clause-supported
returns-clause-supported c = supported_hold
