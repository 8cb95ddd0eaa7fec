use Rattle.p10_walk.specs.Ranges.{ranges_of, DescribesNumbers}
use Rattle.p10_walk.proofs.Ranges.{ranges_sound}
use Rattle.p10_walk.proofs.Sound.{walks_sound}
use Rattle.p10_walk.proofs.laws.ranges_of_walks_hold.Goals as goal

pub returns : goal.returns
returns c = λ p whole n depth number f there. walks_sound p whole n depth number f there _ (ranges_of f.variables) (DescribesNumbers f.variables) (ranges_sound p whole n depth number f there)
