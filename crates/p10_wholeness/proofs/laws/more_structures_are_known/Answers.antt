use Rattle.p10_wholeness.proofs.Knowing.{more_structures_are_known}
use Rattle.p10_wholeness.proofs.laws.more_structures_are_known.Goals as goal

pub returns : goal.returns
returns c = more_structures_are_known
