use Rattle.p10_cert.proofs.TextLaws.{no_wrong_line}
use Rattle.p10_cert.proofs.laws.a_certificate_has_no_wrong_line.Goals as goal

pub returns : goal.returns
returns c = no_wrong_line
