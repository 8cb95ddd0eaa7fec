use Rattle.std.proofs.lemmas.Result.{IfOk-weaker}
use Rattle.p10_range.specs.Ranges.{interval_of}
use Rattle.p10_absx.proofs.BothSides.{both_listed}
use Rattle.p10_absx.proofs.env.Env.both_met.Goals as goal

pub returns : goal.returns
returns c =
    IfOk-weaker _ _ _ (λ q is. both_listed c.args.self.now.values c.args.left c.args.right (interval_of c.args.r) (interval_of c.args.s) _ _ _ _ q
    c.known_side.ensures c.side_met-first.ensures c.known_after.ensures c.side_met-second.ensures is) c.listed.ensures
