use Rattle.p10_cert.proofs.TextLaws.{one_wrong_line}
use Rattle.p10_cert.proofs.laws.a_text_has_one_wrong_line.Goals as goal

pub returns : goal.returns
returns c = one_wrong_line
