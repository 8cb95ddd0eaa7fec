use Rattle.std.proofs.Common.{arith}
use Rattle.p10_int.proofs.Sums.{carried_negation_fits}
use Rattle.p10_int.proofs.operators.unary.Goals as goal

pub overflow_sub-a : goal.overflow_sub-a
overflow_sub-a c = carried_negation_fits c.args.t c.args.a c.ranges.a c.requires

pub overflow_sub-most_bits : goal.overflow_sub-most_bits
overflow_sub-most_bits c = omega (arith, c.bits.ensures.below, c.most_bits.ensures)

pub value-requires : goal.value-requires
value-requires c = omega (arith, c.bits.ensures.below, c.most_bits.ensures)
