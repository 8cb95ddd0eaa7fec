use Rattle.p10_lex.proofs.Uniqueness.{same_words}
use Rattle.p10_lex.proofs.laws.words_are_unique.Goals as goal

pub returns : goal.returns
returns c = same_words
