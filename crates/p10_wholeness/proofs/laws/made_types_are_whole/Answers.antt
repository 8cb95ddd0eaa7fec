use Rattle.p10_wholeness.proofs.MakingDeclarators.{made_types_are_whole}
use Rattle.p10_wholeness.proofs.laws.made_types_are_whole.Goals as goal

pub returns : goal.returns
returns c = made_types_are_whole
