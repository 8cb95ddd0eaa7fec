use Rattle.p10_int.proofs.TruthValues.{compared, negated}
use Rattle.p10_int.proofs.laws.comparisons_give_truth_values.Goals as goal

pub returns-clause-binary : goal.returns-clause-binary
returns-clause-binary c = compared

pub returns-clause-unary : goal.returns-clause-unary
returns-clause-unary c = negated
