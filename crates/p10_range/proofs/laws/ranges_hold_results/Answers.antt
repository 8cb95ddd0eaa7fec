use Rattle.p10_range.proofs.Held.{held, held_unary}
use Rattle.p10_range.proofs.laws.ranges_hold_results.Goals as goal

pub returns-clause-binary : goal.returns-clause-binary
returns-clause-binary c = held

pub returns-clause-unary : goal.returns-clause-unary
returns-clause-unary c = held_unary
