use Rattle.p10_range.proofs.RowPairs.{paired, paired_unary}
use Rattle.p10_range.proofs.laws.ranges_have_pairs.Goals as goal

pub returns-clause-binary : goal.returns-clause-binary
returns-clause-binary c = paired

pub returns-clause-unary : goal.returns-clause-unary
returns-clause-unary c = paired_unary
