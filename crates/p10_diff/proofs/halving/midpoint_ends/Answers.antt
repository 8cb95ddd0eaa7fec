use Rattle.std.proofs.Common.{◌≡◌, ℤ, pos, to_z, of_z, ◌-ℤ◌, rules, arith}
use Rattle.std.specs.Int.{w128}
use Rattle.std.proofs.lemmas.Int.{ints, to_z-of_z}
use Rattle.p10_diff.specs.Knowing.{pair_by, differences_of}
use Rattle.p10_diff.specs.Listed.{name_of}
use Rattle.p10_diff.proofs.Midpoints.{midpoint_told}
use Rattle.p10_diff.proofs.halving.midpoint_ends.Goals as goal

pub returns : goal.returns
returns c =
    let by : to_z w128 (of_z w128 c.args.m.by) ≡ c.args.m.by = to_z-of_z w128 c.args.m.by (search rules) in
    let near : to_z w128 (of_z w128 c.args.m.at_least) ≡ c.args.m.at_least = omega (arith, ints) in
    let far : to_z w128 (of_z w128 c.args.m.at_most) ≡ c.args.m.at_most = omega (arith, ints) in
    let up : to_z w128 (of_z w128 c.quotient-more.result) ≡ c.quotient-more.result = omega (arith, ints) in
    let down : to_z w128 (of_z w128 (pos 0 -ℤ to_z w128 (of_z w128 c.quotient-less.result))) ≡ pos 0 -ℤ c.quotient-less.result = omega (arith, ints) in
    let rest : to_z w128 (of_z w128 (to_z w128 (of_z w128 c.quotient-less.result) -ℤ to_z w128 (of_z w128 c.args.m.at_least))) ≡ c.quotient-less.result -ℤ c.args.m.at_least = omega (arith, ints) in
    let left : to_z w128 (of_z w128 (to_z w128 (of_z w128 c.args.m.at_most) -ℤ to_z w128 (of_z w128 c.quotient-more.result))) ≡ c.args.m.at_most -ℤ c.quotient-more.result = omega (arith, ints) in
    midpoint_told (pair_by c.args.p.now) (differences_of c.args.e.now) c.args.m (name_of c.args.w) _ _ _ _ _ _ _ _ _ c.variable_ends-x.result c.variable_ends-y.result c.plus_ends-from_below.result c.plus_ends-from_above.result c.least_ends.result
    by near far c.quotient-less.ensures.is c.quotient-more.ensures.is up down rest left c.variable_ends-x.ensures c.variable_ends-y.ensures c.plus_ends-from_below.ensures c.plus_ends-from_above.ensures c.least_ends.ensures
