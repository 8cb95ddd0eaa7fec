use Rattle.p10_seal.proofs.Entries.{is_certificate}
use Rattle.p10_seal.proofs.laws.sealed_is_a_certificate.Goals as goal

pub returns : goal.returns
returns c = is_certificate
