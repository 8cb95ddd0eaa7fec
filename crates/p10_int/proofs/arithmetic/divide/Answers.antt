use Rattle.std.proofs.Common.{arith}
use Rattle.p10_int.proofs.Quotients.{carried_quotient_fits}
use Rattle.p10_int.proofs.arithmetic.divide.Goals as goal

pub nonzero_div-a : goal.nonzero_div-a
nonzero_div-a c = (omega arith, carried_quotient_fits c.args.t c.args.a c.args.b c.ranges.a c.ranges.b c.requires.left)
