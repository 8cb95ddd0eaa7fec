use Rattle.p10_root_wholeness.proofs.Together.{roots_are_known}
use Rattle.p10_root_wholeness.proofs.laws.roots_are_known.Goals as goal

pub returns : goal.returns
returns c = roots_are_known
