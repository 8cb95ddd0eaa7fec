use Rattle.std.proofs.Common.{◌∙◌, pos, ◌≤ℤ◌, ◌*ℤ◌, rules, FitsSigned, arith}
use Rattle.std.proofs.lemmas.Int.{ints}
use Rattle.std.specs.Int.{w128}
use Rattle.p10_range.specs.Ranges.{interval_of}
use Rattle.p10_range.proofs.Carried.{both, back_product, le_by, natural_fits}
use Rattle.p10_range.proofs.Corners.{product_le, natural_products}
use Rattle.p10_range.proofs.arithmetic.natural_product.Goals as goal

pub invariant_of-result : goal.invariant_of-result
invariant_of-result c =
    let al : FitsSigned w128 c.args.a.lo = search rules in
    let ah : FitsSigned w128 c.args.a.hi = search rules in
    let bl : FitsSigned w128 c.args.b.lo = search rules in
    let bh : FitsSigned w128 c.args.b.hi = search rules in
    let grows : (c.args.a.lo *ℤ c.args.b.lo) ≤ℤ (c.args.a.hi *ℤ c.args.b.hi) =
    product_le c.args.a.lo c.args.a.hi c.args.b.lo c.args.b.hi c.requires.left c.args.a.ordered c.requires.right c.args.b.ordered in
    let zero : pos 0 ≤ℤ (c.args.a.lo *ℤ c.args.b.lo) = product_le (pos 0) c.args.a.lo (pos 0) c.args.b.lo (omega (arith, ints)) c.requires.left (omega (arith, ints)) c.requires.right in
    record {
      ordered = le_by _ _ _ _
          (back_product c.args.a.lo c.args.b.lo al bl (natural_fits c.args.a.lo c.args.b.lo c.args.most zero (omega (arith, ints, grows, c.requires.small)) c.ranges.most))
          (back_product c.args.a.hi c.args.b.hi ah bh (natural_fits c.args.a.hi c.args.b.hi c.args.most (omega (arith, ints, grows, zero)) c.requires.small c.ranges.most))
          grows;
    }

pub returns : goal.returns
returns c =
    let al : FitsSigned w128 c.args.a.lo = search rules in
    let ah : FitsSigned w128 c.args.a.hi = search rules in
    let bl : FitsSigned w128 c.args.b.lo = search rules in
    let bh : FitsSigned w128 c.args.b.hi = search rules in
    let grows : (c.args.a.lo *ℤ c.args.b.lo) ≤ℤ (c.args.a.hi *ℤ c.args.b.hi) =
    product_le c.args.a.lo c.args.a.hi c.args.b.lo c.args.b.hi c.requires.left c.args.a.ordered c.requires.right c.args.b.ordered in
    let zero : pos 0 ≤ℤ (c.args.a.lo *ℤ c.args.b.lo) = product_le (pos 0) c.args.a.lo (pos 0) c.args.b.lo (omega (arith, ints)) c.requires.left (omega (arith, ints)) c.requires.right in
    both _ _ _ _
    (back_product c.args.a.lo c.args.b.lo al bl (natural_fits c.args.a.lo c.args.b.lo c.args.most zero (omega (arith, ints, grows, c.requires.small)) c.ranges.most))
    (back_product c.args.a.hi c.args.b.hi ah bh (natural_fits c.args.a.hi c.args.b.hi c.args.most (omega (arith, ints, grows, zero)) c.requires.small c.ranges.most))
    ∙ natural_products (interval_of c.args.a) (interval_of c.args.b) c.requires.left c.args.a.ordered c.requires.right c.args.b.ordered
