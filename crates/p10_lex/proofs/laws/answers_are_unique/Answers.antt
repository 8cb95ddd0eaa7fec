use Rattle.p10_lex.proofs.Uniqueness.{same_answer}
use Rattle.p10_lex.proofs.laws.answers_are_unique.Goals as goal

pub returns : goal.returns
returns c = same_answer
