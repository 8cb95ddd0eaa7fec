use Rattle.p10_meaning.proofs.Computed.{runs_give}
use Rattle.p10_meaning.proofs.OtherRuns.{turns_give}
use Rattle.p10_meaning.proofs.laws.runs_give.Goals as goal

pub returns-clause-runs : goal.returns-clause-runs
returns-clause-runs c = runs_give

pub returns-clause-turns : goal.returns-clause-turns
returns-clause-turns c = turns_give
