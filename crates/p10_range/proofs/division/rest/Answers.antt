use Rattle.std.proofs.Common.{arith}
use Rattle.std.proofs.lemmas.Int.{ints, clamps}
use Rattle.p10_range.proofs.Carried.{both}
use Rattle.p10_range.proofs.division.rest.Goals as goal

pub returns : goal.returns
returns c = both _ _ _ _ (omega (arith, ints, clamps, c.max.ensures.value, c.min.ensures.value)) (omega (arith, ints, clamps, c.min-2.ensures.value, c.max-2.ensures.value))
