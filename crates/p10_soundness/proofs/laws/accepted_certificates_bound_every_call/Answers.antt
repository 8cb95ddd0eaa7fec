use Rattle.p10_soundness.proofs.Sound.{accepted_bound_calls}
use Rattle.p10_soundness.proofs.laws.accepted_certificates_bound_every_call.Goals as goal

pub returns : goal.returns
returns c = accepted_bound_calls
