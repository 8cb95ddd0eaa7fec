use Rattle.p10_core.specs.Views.{plain_statement}
use Rattle.p10_diff.specs.Differences.{Differences}
use Rattle.p10_diff.specs.Knowing.{pair_by, differences_of}
use Rattle.p10_diff.specs.private.Executing.{ranges_after}
use Rattle.p10_diff.proofs.Statements.{carried, none_carried}
use Rattle.p10_diff.proofs.executing.ranged.Goals as goal

pub returns-in-Some : goal.returns-in-Some
returns-in-Some c =
    let e : Differences = differences_of c.args.e in
    carried (λ ranges. record e { ranges = ranges }) (ranges_after (pair_by c.args.p.now) (plain_statement c.args.s.now) e.ranges) c.in_ok-after.field-0 c.in-Some.after (differences_of c.with_ranges.result) c.in_ok-after.ensures c.in-Some.is c.with_ranges.ensures

pub returns-in-None : goal.returns-in-None
returns-in-None c =
    let e : Differences = differences_of c.args.e in
    none_carried (λ ranges. record e { ranges = ranges }) (ranges_after (pair_by c.args.p.now) (plain_statement c.args.s.now) e.ranges) c.in_ok-after.field-0 c.in_ok-after.ensures c.in-None.is
