use Rattle.p10_walk.proofs.Ranges.{ranges_sound}
use Rattle.p10_walk.proofs.laws.ranges_are_sound.Goals as goal

pub returns : goal.returns
returns c = ranges_sound
