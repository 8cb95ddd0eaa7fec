use Rattle.p10_digests.proofs.Telling.{lines_tell_words}
use Rattle.p10_digests.proofs.laws.lines_tell_words.Goals as goal

pub returns : goal.returns
returns c = lines_tell_words
