use Rattle.p10_meaning.proofs.Budgets.{runs_need_no_more}
use Rattle.p10_meaning.proofs.laws.runs_need_no_more.Goals as goal

pub returns : goal.returns
returns c = runs_need_no_more
