use Rattle.p10_sums.proofs.SpendingStatements.{values_take, statements_take, calls_take}
use Rattle.p10_sums.proofs.laws.executions_take_what_they_cost.Goals as goal

pub returns-clause-values : goal.returns-clause-values
returns-clause-values c = values_take

pub returns-clause-statements : goal.returns-clause-statements
returns-clause-statements c = statements_take

pub returns-clause-calls : goal.returns-clause-calls
returns-clause-calls c = calls_take
