use Rattle.std.proofs.Common.{◌∙◌, ap, rules, Some, FitsSigned}
use Rattle.std.proofs.lemmas.Int.{to_z-of_z}
use Rattle.std.specs.Int.{w128}
use Rattle.p10_range.specs.Ranges.{interval_of}
use Rattle.p10_range.proofs.Unsigned.{all_over}
use Rattle.p10_range.proofs.arithmetic.multiply_unsigned.Goals as goal

pub returns-else-is_product_at_most : goal.returns-else-is_product_at_most
returns-else-is_product_at_most c =
    let ah : FitsSigned w128 c.args.a.hi = search rules in
    let bh : FitsSigned w128 c.args.b.hi = search rules in
    let most : FitsSigned w128 c.values-all.result.hi = search rules in
    ap Some c.values-all.ensures
    ∙ all_over c.args.t (interval_of c.args.a) (interval_of c.args.b) (interval_of c.values-all.result) _ c.requires.unsigned
    c.requires.left c.args.a.ordered c.requires.right c.args.b.ordered c.values-all.ensures
    (rw (to_z-of_z w128 c.args.a.hi ah, to_z-of_z w128 c.args.b.hi bh, to_z-of_z w128 c.values-all.result.hi most) at c.is_product_at_most.ensures)
    c.if-is_product_at_most.false
