use Rattle.p10_parse.proofs.Roots.{roots_are_unique}
use Rattle.p10_parse.proofs.laws.one_root.Goals as goal

pub returns : goal.returns
returns c = roots_are_unique
