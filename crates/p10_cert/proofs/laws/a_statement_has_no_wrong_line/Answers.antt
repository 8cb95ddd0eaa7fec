use Rattle.p10_cert.proofs.TextLaws.{no_wrong_statement}
use Rattle.p10_cert.proofs.laws.a_statement_has_no_wrong_line.Goals as goal

pub returns : goal.returns
returns c = no_wrong_statement
