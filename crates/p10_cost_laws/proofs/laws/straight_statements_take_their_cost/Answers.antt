use Rattle.p10_cost_laws.proofs.Values.{values_take_their_cost}
use Rattle.p10_cost_laws.proofs.Statements.{statements_take_their_cost}
use Rattle.p10_cost_laws.proofs.laws.straight_statements_take_their_cost.Goals as goal

pub returns-clause-values : goal.returns-clause-values
returns-clause-values c = values_take_their_cost

pub returns-clause-statements : goal.returns-clause-statements
returns-clause-statements c = statements_take_their_cost
