use Rattle.p10_clean_soundness.proofs.Operators.{none_stops, no_unary_stops}
use Rattle.p10_clean_soundness.proofs.laws.operators_are_defined.Goals as goal

pub returns-clause-binary : goal.returns-clause-binary
returns-clause-binary c = none_stops

pub returns-clause-unary : goal.returns-clause-unary
returns-clause-unary c = no_unary_stops
