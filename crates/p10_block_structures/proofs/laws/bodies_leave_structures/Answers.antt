use Rattle.p10_block_structures.proofs.KeepingStatements.{bodies_leave_structures}
use Rattle.p10_block_structures.proofs.laws.bodies_leave_structures.Goals as goal

pub returns : goal.returns
returns c = bodies_leave_structures
