use Rattle.p10_digests.proofs.OutsideTelling.{outside_tells_words}
use Rattle.p10_digests.proofs.laws.outside_tells_words.Goals as goal

pub returns : goal.returns
returns c = outside_tells_words
