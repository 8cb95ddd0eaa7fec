use Rattle.p10_expand.proofs.Known.{roots_are_named}
use Rattle.p10_expand.proofs.laws.roots_are_named.Goals as goal

pub returns : goal.returns
returns c = roots_are_named
