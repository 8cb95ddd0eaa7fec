use Rattle.p10_root_wholeness.proofs.Together.{structures_are_whole}
use Rattle.p10_root_wholeness.proofs.laws.structures_are_whole.Goals as goal

pub returns : goal.returns
returns c = structures_are_whole
