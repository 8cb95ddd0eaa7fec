use Rattle.p10_diff.proofs.Executed.{differences_sound}
use Rattle.p10_diff.proofs.laws.differences_are_sound.Goals as goal

pub returns : goal.returns
returns c = differences_sound
