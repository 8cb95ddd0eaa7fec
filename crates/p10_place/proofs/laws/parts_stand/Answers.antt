use Rattle.p10_place.proofs.Whole.{parts_stand}
use Rattle.p10_place.proofs.laws.parts_stand.Goals as goal

pub returns : goal.returns
returns c = parts_stand
