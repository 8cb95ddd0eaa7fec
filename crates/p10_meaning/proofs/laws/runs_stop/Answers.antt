use Rattle.p10_meaning.proofs.Computed.{runs_stop}
use Rattle.p10_meaning.proofs.OtherRuns.{others_stop_too}
use Rattle.p10_meaning.proofs.laws.runs_stop.Goals as goal

pub returns-clause-each : goal.returns-clause-each
returns-clause-each c = runs_stop

pub returns-clause-others : goal.returns-clause-others
returns-clause-others c = others_stop_too
