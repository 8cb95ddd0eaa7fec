use Rattle.p10_int.proofs.Quotients.{carried_rest}
use Rattle.p10_int.proofs.arithmetic.remain.Goals as goal

pub returns : goal.returns
returns c = carried_rest c.args.t c.args.a c.args.b _ c.ranges.a c.ranges.b c.in_ok-divide.ensures
