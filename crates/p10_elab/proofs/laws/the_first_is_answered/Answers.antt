use Rattle.p10_elab.proofs.Answers.{the_first_is_answered}
use Rattle.p10_elab.proofs.laws.the_first_is_answered.Goals as goal

pub returns : goal.returns
returns c = the_first_is_answered
