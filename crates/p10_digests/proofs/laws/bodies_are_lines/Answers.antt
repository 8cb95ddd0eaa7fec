use Rattle.p10_digests.proofs.Bodies.{bodies_are_lines}
use Rattle.p10_digests.proofs.laws.bodies_are_lines.Goals as goal

pub returns : goal.returns
returns c = bodies_are_lines
