use Rattle.p10_cert.proofs.TextLaws.{text_tells_statement}
use Rattle.p10_cert.proofs.laws.a_text_tells_its_statement.Goals as goal

pub returns : goal.returns
returns c = text_tells_statement
