use Rattle.p10_place.proofs.Whole.{places_add}
use Rattle.p10_place.proofs.laws.places_add.Goals as goal

pub returns : goal.returns
returns c = places_add
