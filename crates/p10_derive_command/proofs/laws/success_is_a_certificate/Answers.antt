use Rattle.p10_derive_command.proofs.Succeeding.{success}
use Rattle.p10_derive_command.proofs.laws.success_is_a_certificate.Goals as goal

pub returns : goal.returns
returns c = success
