use Rattle.p10_block_scopes.proofs.ExtendingStatements.{bodies_leave_scopes}
use Rattle.p10_block_scopes.proofs.laws.bodies_leave_scopes.Goals as goal

pub returns : goal.returns
returns c = bodies_leave_scopes
