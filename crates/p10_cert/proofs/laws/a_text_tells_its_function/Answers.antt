use Rattle.p10_cert.proofs.TextLaws.{text_tells_function}
use Rattle.p10_cert.proofs.laws.a_text_tells_its_function.Goals as goal

pub returns : goal.returns
returns c = text_tells_function
