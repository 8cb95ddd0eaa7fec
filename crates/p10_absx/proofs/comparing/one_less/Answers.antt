use Rattle.std.proofs.Common.{arith}
use Rattle.std.proofs.lemmas.Int.{ints}
use Rattle.p10_absx.proofs.comparing.one_less.Goals as goal

pub returns : goal.returns
returns c = omega (arith, ints)
