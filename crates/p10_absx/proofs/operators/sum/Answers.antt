use Rattle.std.proofs.Common.{arith}
use Rattle.std.proofs.lemmas.Int.{ints}
use Rattle.p10_range.proofs.Carried.{both}
use Rattle.p10_absx.proofs.operators.sum.Goals as goal

pub returns : goal.returns
returns c = both _ _ _ _ (omega (arith, ints)) (omega (arith, ints))

pub invariant_of-result : goal.invariant_of-result
invariant_of-result c = record { ordered = omega (arith, ints) }
