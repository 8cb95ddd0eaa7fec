use Rattle.p10_digests.proofs.WordsThere.{words_stand_there}
use Rattle.p10_digests.proofs.laws.words_stand_there.Goals as goal

pub returns : goal.returns
returns c = words_stand_there
