use Rattle.p10_cert.proofs.TextLaws.{one_wrong_line_of_both}
use Rattle.p10_cert.proofs.laws.a_text_has_one_wrong_line_of_both.Goals as goal

pub returns : goal.returns
returns c = one_wrong_line_of_both
