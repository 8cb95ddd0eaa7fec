use Rattle.p10_expansion_laws.proofs.WordsEnd.{words_end}
use Rattle.p10_expansion_laws.proofs.laws.words_end.Goals as goal

pub returns : goal.returns
returns c = words_end
