use Rattle.p10_interp.proofs.ByStages.{runs_by_stages}
use Rattle.p10_interp.proofs.laws.runs_come_in_stages.Goals as goal

pub returns : goal.returns
returns c = runs_by_stages
