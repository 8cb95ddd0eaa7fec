use Rattle.p10_walk.specs.Ranges.{ranges_of, DescribesNumbers}
use Rattle.p10_walk.proofs.Ranges.{ranges_sound}
use Rattle.p10_walk.proofs.Turning.{ranks_bound_turns}
use Rattle.p10_walk.proofs.laws.ranks_over_ranges_bound_turns.Goals as goal

pub returns : goal.returns
returns c = λ p whole n depth number f there. ranks_bound_turns p whole n depth number f there _ (ranges_of f.variables) (DescribesNumbers f.variables) (ranges_sound p whole n depth number f there)
