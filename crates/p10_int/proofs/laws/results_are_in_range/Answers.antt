use Rattle.p10_int.proofs.InRange.{operate_in, unary_in}
use Rattle.p10_int.proofs.laws.results_are_in_range.Goals as goal

pub returns-clause-binary : goal.returns-clause-binary
returns-clause-binary c = λ op t a b r i j e. operate_in op t a b r i e

pub returns-clause-unary : goal.returns-clause-unary
returns-clause-unary c = unary_in
