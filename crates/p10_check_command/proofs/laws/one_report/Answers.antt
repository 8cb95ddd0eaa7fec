use Rattle.p10_check_command.proofs.OneAnswer as lemma
use Rattle.p10_check_command.proofs.laws.one_report.Goals as goal

pub returns : goal.returns
returns c = lemma.one_report c.one_reading.ensures
