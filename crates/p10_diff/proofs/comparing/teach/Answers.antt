use Rattle.std.proofs.lemmas.Result.{on_ok_weaker}
use Rattle.p10_core.specs.Views.{plain_value}
use Rattle.p10_diff.specs.Knowing.{pair_by}
use Rattle.p10_diff.specs.Listed.{bounds_listed}
use Rattle.p10_diff.proofs.Outcomes.{taught_told}
use Rattle.p10_diff.proofs.comparing.teach.Goals as goal

pub returns : goal.returns
returns c =
    on_ok_weaker c.compare.result (taught_told (pair_by c.args.p.now) c.args.op (plain_value c.args.a.now) (plain_value c.args.b.now) c.args.e.now c.named.new.ranges c.named-2.new.ranges c.in_ok-left.left c.in_ok-right.right (bounds_listed c.compare.new.bounds.items)
    c.if-not-compares.ensures c.in_ok-left.ensures.same c.in_ok-right.ensures.same c.in_ok-left.ensures.is c.in_ok-right.ensures.is) c.compare.ensures
