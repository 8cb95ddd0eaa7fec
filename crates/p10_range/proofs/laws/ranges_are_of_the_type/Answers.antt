use Rattle.p10_range.proofs.Typed.{typed, typed_unary, typed_conversion}
use Rattle.p10_range.proofs.laws.ranges_are_of_the_type.Goals as goal

pub returns-clause-binary : goal.returns-clause-binary
returns-clause-binary c = typed

pub returns-clause-unary : goal.returns-clause-unary
returns-clause-unary c = typed_unary

pub returns-clause-conversion : goal.returns-clause-conversion
returns-clause-conversion c = typed_conversion
