use Rattle.std.proofs.Common.{arith}
use Rattle.std.proofs.lemmas.Int.{ints}
use Rattle.p10_range.proofs.Carried.{both}
use Rattle.p10_absx.proofs.operators.small_sum.Goals as goal

pub returns : goal.returns
returns c = both _ _ _ _ (omega (arith, ints)) (omega (arith, ints))
