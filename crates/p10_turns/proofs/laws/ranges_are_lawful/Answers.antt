use Rattle.p10_turns.proofs.Bounded.{ranges_lawful}
use Rattle.p10_turns.proofs.laws.ranges_are_lawful.Goals as goal

pub returns : goal.returns
returns c = ranges_lawful
