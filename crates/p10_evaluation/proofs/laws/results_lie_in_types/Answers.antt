use Rattle.p10_evaluation.proofs.WholeFunctions.{results_lie}
use Rattle.p10_evaluation.proofs.laws.results_lie_in_types.Goals as goal

pub returns : goal.returns
returns c = results_lie
