use Rattle.p10_place.proofs.Examples.{examples_stand}
use Rattle.p10_place.proofs.laws.examples_stand.Goals as goal

pub returns : goal.returns
returns c = examples_stand
