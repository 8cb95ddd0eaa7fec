use Rattle.p10_execution.proofs.Leaving.{statements_leave}
use Rattle.p10_execution.proofs.laws.statements_leave_what_is_said.Goals as goal

pub returns : goal.returns
returns c = statements_leave
