use Rattle.p10_finder.proofs.SmallAnswers.{answers_of_each_kind}
use Rattle.p10_finder.proofs.laws.answers_of_each_kind.Goals as goal

pub returns : goal.returns
returns c = answers_of_each_kind
