use Rattle.p10_report.proofs.Values.{line_is_text}
use Rattle.p10_report.proofs.laws.refusal_line_is_its_text.Goals as goal

pub returns : goal.returns
returns c = line_is_text
