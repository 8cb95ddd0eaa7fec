use Rattle.p10_wholeness.proofs.Growth.{types_stay_whole}
use Rattle.p10_wholeness.proofs.laws.types_stay_whole.Goals as goal

pub returns : goal.returns
returns c = types_stay_whole
