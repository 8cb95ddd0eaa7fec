use Rattle.p10_finder.proofs.OneAnswer.{derives_once}
use Rattle.p10_finder.proofs.laws.one_derivation.Goals as goal

pub returns : goal.returns
returns c = derives_once
