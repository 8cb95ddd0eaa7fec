use Rattle.p10_meaning.proofs.Computed.{steps_are_counted}
use Rattle.p10_meaning.proofs.OtherRuns.{other_steps_are_counted}
use Rattle.p10_meaning.proofs.laws.steps_are_counted.Goals as goal

pub returns-clause-rows : goal.returns-clause-rows
returns-clause-rows c = steps_are_counted

pub returns-clause-others : goal.returns-clause-others
returns-clause-others c = other_steps_are_counted
