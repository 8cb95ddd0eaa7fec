use Rattle.p10_digests.proofs.SmallTexts.{small_function}
use Rattle.p10_digests.proofs.laws.small_function.Goals as goal

pub returns : goal.returns
returns c = small_function
