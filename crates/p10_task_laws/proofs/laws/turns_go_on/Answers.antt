use Rattle.p10_task_laws.proofs.Tasks.{turns_go_on, kept_rule_goes_on}
use Rattle.p10_task_laws.proofs.Runs.{runs_go_on_turning}
use Rattle.p10_task_laws.proofs.laws.turns_go_on.Goals as goal

pub returns-clause-list : goal.returns-clause-list
returns-clause-list c = turns_go_on

pub returns-clause-rule : goal.returns-clause-rule
returns-clause-rule c = kept_rule_goes_on

pub returns-clause-runs : goal.returns-clause-runs
returns-clause-runs c = runs_go_on_turning
