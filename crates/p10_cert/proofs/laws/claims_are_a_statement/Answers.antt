use Rattle.p10_cert.proofs.VersionLaws.{plain_good, plain_claims, plain_text}
use Rattle.p10_cert.proofs.laws.claims_are_a_statement.Goals as goal

pub returns : goal.returns
returns c = λ c. (plain_good c, plain_claims c, plain_text c)
