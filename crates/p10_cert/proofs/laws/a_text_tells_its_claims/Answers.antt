use Rattle.p10_cert.proofs.TextLaws.{text_tells_claims}
use Rattle.p10_cert.proofs.laws.a_text_tells_its_claims.Goals as goal

pub returns : goal.returns
returns c = text_tells_claims
