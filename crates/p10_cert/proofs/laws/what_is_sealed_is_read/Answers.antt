use Rattle.p10_cert.proofs.TextLaws.{sealed_is_read}
use Rattle.p10_cert.proofs.laws.what_is_sealed_is_read.Goals as goal

pub returns : goal.returns
returns c = sealed_is_read
