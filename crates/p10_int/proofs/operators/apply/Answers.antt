use Rattle.std.proofs.lemmas.Nat.{or_lt, xor_lt}
use Rattle.p10_int.specs.Types.{width_of}
use Rattle.p10_int.proofs.Sums.{carried_sum_fits, carried_difference_fits}
use Rattle.p10_int.proofs.operators.apply.Goals as goal

pub overflow_add-a : goal.overflow_add-a
overflow_add-a c = carried_sum_fits c.args.op c.args.t c.args.a c.args.b c.in-Add.is c.ranges.a c.ranges.b c.requires.left c.requires.right

pub overflow_sub-a : goal.overflow_sub-a
overflow_sub-a c = carried_difference_fits c.args.op c.args.t c.args.a c.args.b c.in-Sub.is c.ranges.a c.ranges.b c.requires.left c.requires.right

pub value-requires-in-Or : goal.value-requires-in-Or
value-requires-in-Or c = or_lt (width_of c.args.t) _ _ c.bits-in-Or.ensures.below c.bits-in-Or-2.ensures.below

pub value-requires-in-Xor : goal.value-requires-in-Xor
value-requires-in-Xor c = xor_lt (width_of c.args.t) _ _ c.bits-in-Xor.ensures.below c.bits-in-Xor-2.ensures.below
