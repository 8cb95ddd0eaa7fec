use Rattle.p10_stop_laws.proofs.Calls.{calls_stop_with_cause}
use Rattle.p10_stop_laws.proofs.Runs.{runs_stop_with_cause}
use Rattle.p10_stop_laws.proofs.laws.stops_have_causes.Goals as goal

pub returns-clause-calls : goal.returns-clause-calls
returns-clause-calls c = calls_stop_with_cause

pub returns-clause-runs : goal.returns-clause-runs
returns-clause-runs c = runs_stop_with_cause
