use Rattle.p10_seal.proofs.Sizes.{reading_sized}
use Rattle.p10_seal.proofs.laws.reading_digests_are_sized.Goals as goal

pub returns : goal.returns
returns c = reading_sized
