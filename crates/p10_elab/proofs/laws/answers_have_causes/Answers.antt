use Rattle.p10_elab.proofs.Answers.{answers_have_causes}
use Rattle.p10_elab.proofs.laws.answers_have_causes.Goals as goal

pub returns : goal.returns
returns c = answers_have_causes
