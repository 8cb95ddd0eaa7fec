use Rattle.std.proofs.Common.{refl}
use Rattle.p10_range.specs.Rows.{fitted_interval, quotients, remainders, shifts_left, shifts_right, conjunctions, disjunctions, binary_digits}
use Rattle.p10_range.proofs.laws.ranges_at_edges.Goals as goal

pub returns-clause-binary : goal.returns-clause-binary
unfolding fitted_interval quotients remainders shifts_left shifts_right conjunctions disjunctions binary_digits
returns-clause-binary c = refl

pub returns-clause-unary : goal.returns-clause-unary
unfolding fitted_interval
returns-clause-unary c = refl
