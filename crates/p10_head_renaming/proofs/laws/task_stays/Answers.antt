use Rattle.p10_head_renaming.proofs.Task.{task_stays}
use Rattle.p10_head_renaming.proofs.laws.task_stays.Goals as goal

pub returns : goal.returns
returns c = task_stays
