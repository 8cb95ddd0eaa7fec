use Rattle.p10_loopless.proofs.Whole.{one_stands_whole}
use Rattle.p10_loopless.proofs.laws.one_stands_whole.Goals as goal

pub returns : goal.returns
returns c = one_stands_whole
