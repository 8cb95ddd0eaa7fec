use Rattle.p10_soundness.proofs.Sound.{accepted_bound, accepted_by_ranges_bound}
use Rattle.p10_soundness.proofs.laws.accepted_certificates_bound_every_run.Goals as goal

pub returns-clause-lawful : goal.returns-clause-lawful
returns-clause-lawful c = accepted_bound

pub returns-clause-ranges : goal.returns-clause-ranges
returns-clause-ranges c = accepted_by_ranges_bound
