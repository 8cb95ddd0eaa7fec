use Rattle.p10_task.proofs.WholeRuns.{stay_as_claimed}
use Rattle.p10_task.proofs.laws.tasks_stay_as_claimed.Goals as goal

pub returns : goal.returns
returns c = stay_as_claimed
