use Rattle.p10_range.proofs.GrowingBits.{grown, grown_unary, grown_conversion}
use Rattle.p10_range.proofs.laws.ranges_are_monotone.Goals as goal

pub returns-clause-binary : goal.returns-clause-binary
returns-clause-binary c = grown

pub returns-clause-unary : goal.returns-clause-unary
returns-clause-unary c = grown_unary

pub returns-clause-conversion : goal.returns-clause-conversion
returns-clause-conversion c = grown_conversion
