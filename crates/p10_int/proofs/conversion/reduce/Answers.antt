use Rattle.std.proofs.Common.{ap, arith, rules}
use Rattle.p10_int.proofs.Carried.{carried_sum}
use Rattle.p10_int.proofs.Sums.{carried_way_fits}
use Rattle.p10_int.proofs.conversion.reduce.Goals as goal

pub returns : goal.returns
returns c =
    carried_sum c.args.t c.args.v c.range-least.result.0 c.modulus.result c.rem_euclid.result c.ranges.v (search rules) (record { sfits = omega (arith, c.modulus.type_inv) }) (record { sfits = omega (arith, c.rem_euclid.type_inv) })
    c.requires.low c.requires.high (ap (λ p. p.0) c.range-least.ensures) c.modulus.ensures c.rem_euclid.ensures.lower_bound c.rem_euclid.ensures.value

pub overflow_sub-v : goal.overflow_sub-v
overflow_sub-v c =
    carried_way_fits c.args.t c.args.v c.range-least.result.0 c.ranges.v (search rules) c.requires.low c.requires.high (ap (λ p. p.0) c.range-least.ensures)
