use Rattle.p10_statement_steps.proofs.Doing.{statements_take_steps}
use Rattle.p10_statement_steps.proofs.laws.statements_take_steps.Goals as goal

pub returns : goal.returns
returns c = statements_take_steps
