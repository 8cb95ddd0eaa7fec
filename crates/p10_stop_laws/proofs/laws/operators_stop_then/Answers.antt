use Rattle.p10_stop_laws.proofs.Operators.{operators_stop_then, unary_operators_stop_then}
use Rattle.p10_stop_laws.proofs.laws.operators_stop_then.Goals as goal

pub returns-clause-binary : goal.returns-clause-binary
returns-clause-binary c = operators_stop_then

pub returns-clause-unary : goal.returns-clause-unary
returns-clause-unary c = unary_operators_stop_then
