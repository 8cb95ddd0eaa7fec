use Rattle.p10_statement_renaming.proofs.Bodies.{bodies_renamed}
use Rattle.p10_statement_renaming.proofs.laws.bodies_renamed.Goals as goal

pub returns : goal.returns
returns c = bodies_renamed
