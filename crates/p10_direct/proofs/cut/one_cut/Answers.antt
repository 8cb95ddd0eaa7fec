use Rattle.p10_direct.proofs.Cuts.{cut_once}
use Rattle.p10_direct.proofs.cut.one_cut.Goals as goal

pub returns : goal.returns
returns c = cut_once
