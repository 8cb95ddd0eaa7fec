use Rattle.p10_seal.proofs.Entries.{with_sections}
use Rattle.p10_seal.proofs.laws.sealed_with_is_a_certificate.Goals as goal

pub returns : goal.returns
returns c = with_sections
