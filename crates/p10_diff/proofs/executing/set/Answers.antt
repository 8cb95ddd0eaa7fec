use Rattle.p10_core.specs.Views.{plain_statement, plain_place, plain_value}
use Rattle.p10_diff.specs.Expressions.{up, low}
use Rattle.p10_diff.specs.Domain.{assigned_to}
use Rattle.p10_diff.specs.Differences.{Differences}
use Rattle.p10_diff.specs.Knowing.{pair_by, differences_of}
use Rattle.p10_diff.specs.private.Executing.{ranges_after}
use Rattle.p10_diff.proofs.Statements.{carried, none_carried}
use Rattle.p10_diff.proofs.executing.set.Goals as goal

pub returns-in_ok-assign_to-in-Some : goal.returns-in_ok-assign_to-in-Some
returns-in_ok-assign_to-in-Some c =
    let e : Differences = differences_of c.args.e in
    carried (assigned_to (pair_by c.args.p.now) (plain_place c.args.target.now) (up (pair_by c.args.p.now) (plain_value c.args.v.now) e) (low (pair_by c.args.p.now) (plain_value c.args.v.now) e) e) (ranges_after (pair_by c.args.p.now) (plain_statement c.args.s.now) e.ranges) c.in_ok-after.field-0 c.in-Some.after (differences_of c.in_ok-assign_to-in-Some.field-0) c.in_ok-after.ensures c.in-Some.is c.in_ok-assign_to-in-Some.ensures

pub returns-in-None : goal.returns-in-None
returns-in-None c =
    let e : Differences = differences_of c.args.e in
    none_carried (assigned_to (pair_by c.args.p.now) (plain_place c.args.target.now) (up (pair_by c.args.p.now) (plain_value c.args.v.now) e) (low (pair_by c.args.p.now) (plain_value c.args.v.now) e) e) (ranges_after (pair_by c.args.p.now) (plain_statement c.args.s.now) e.ranges) c.in_ok-after.field-0 c.in_ok-after.ensures c.in-None.is
