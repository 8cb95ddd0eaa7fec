use Rattle.p10_nesting.proofs.Parenthesised.{returning_nests}
use Rattle.p10_nesting.proofs.laws.parentheses_nest.Goals as goal

pub returns-clause-some : goal.returns-clause-some
returns-clause-some c = returning_nests
