use Rattle.p10_digests.proofs.SmallTexts.{small_outside}
use Rattle.p10_digests.proofs.laws.small_outside.Goals as goal

pub returns : goal.returns
returns c = small_outside
