use Rattle.std.proofs.Common.{refl}
use Rattle.p10_flowrules.proofs.laws.loops_are_left.Goals as goal

pub returns : goal.returns
returns c v = refl
