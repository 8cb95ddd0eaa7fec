use Rattle.p10_range.proofs.Carried.{carried_spread}
use Rattle.p10_range.proofs.arithmetic.spread.Goals as goal

pub returns : goal.returns
returns c =
    carried_spread c.args.p c.args.q c.args.r c.args.s _ _ _ c.ranges.p c.ranges.q c.ranges.r c.ranges.s
    c.between.ensures c.between-2.ensures c.hull.ensures
