use Rattle.std.proofs.Common.{◌∙◌, to_z, of_z}
use Rattle.std.specs.Int.{int_div_euclid, w128}
use Rattle.std.proofs.lemmas.Int.{to_z-of_z}
use Rattle.p10_diff.proofs.Numbers.{quotient_is, quotient_low, quotient_high}
use Rattle.p10_diff.proofs.halving.quotient.Goals as goal

pub returns-clause-is : goal.returns-clause-is
returns-clause-is c =
    quotient_is c.args.d c.args.by c.div_euclid.result (to_z w128 (of_z w128 c.div_euclid.result)) c.requires.two
    (c.div_euclid.ensures ∙ (λ i. int_div_euclid (to_z-of_z w128 c.args.d c.ranges.d i) (to_z-of_z w128 c.args.by c.ranges.by i))) (to_z-of_z w128 c.div_euclid.result (record { sfits = c.div_euclid.type_inv }))

pub returns-clause-low : goal.returns-clause-low
returns-clause-low c =
    quotient_low c.args.d c.args.by c.div_euclid.result (to_z w128 (of_z w128 c.div_euclid.result)) c.requires.two c.requires.low
    (c.div_euclid.ensures ∙ (λ i. int_div_euclid (to_z-of_z w128 c.args.d c.ranges.d i) (to_z-of_z w128 c.args.by c.ranges.by i))) (to_z-of_z w128 c.div_euclid.result (record { sfits = c.div_euclid.type_inv }))

pub returns-clause-high : goal.returns-clause-high
returns-clause-high c =
    quotient_high c.args.d c.args.by c.div_euclid.result (to_z w128 (of_z w128 c.div_euclid.result)) c.requires.two c.requires.high
    (c.div_euclid.ensures ∙ (λ i. int_div_euclid (to_z-of_z w128 c.args.d c.ranges.d i) (to_z-of_z w128 c.args.by c.ranges.by i))) (to_z-of_z w128 c.div_euclid.result (record { sfits = c.div_euclid.type_inv }))
