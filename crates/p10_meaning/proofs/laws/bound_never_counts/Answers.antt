use Rattle.p10_meaning.proofs.AgreeingCalls.{calls_run, statements_run, values_run, loops_have_no_bound}
use Rattle.p10_meaning.proofs.laws.bound_never_counts.Goals as goal

pub returns-clause-calls : goal.returns-clause-calls
returns-clause-calls c = calls_run

pub returns-clause-statements : goal.returns-clause-statements
returns-clause-statements c = statements_run

pub returns-clause-loops : goal.returns-clause-loops
returns-clause-loops c = loops_have_no_bound

pub returns-clause-values : goal.returns-clause-values
returns-clause-values c = values_run
