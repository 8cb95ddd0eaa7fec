use Rattle.p10_core.specs.Views.{plain_statement, plain_initializer}
use Rattle.p10_diff.specs.Domain.{declared_as}
use Rattle.p10_diff.specs.Differences.{Differences}
use Rattle.p10_diff.specs.Knowing.{pair_by, differences_of}
use Rattle.p10_diff.specs.private.Executing.{ranges_after}
use Rattle.p10_diff.proofs.Statements.{carried, none_carried}
use Rattle.p10_diff.proofs.executing.declare.Goals as goal

pub returns-in_ok-declare_in-in-Some : goal.returns-in_ok-declare_in-in-Some
returns-in_ok-declare_in-in-Some c =
    let e : Differences = differences_of c.args.e in
    carried (declared_as (pair_by c.args.p.now) c.args.n (plain_initializer c.args.initial.now) e) (ranges_after (pair_by c.args.p.now) (plain_statement c.args.s.now) e.ranges) c.in_ok-after.field-0 c.in-Some.after (differences_of c.in_ok-declare_in-in-Some.field-0) c.in_ok-after.ensures c.in-Some.is c.in_ok-declare_in-in-Some.ensures

pub returns-in-None : goal.returns-in-None
returns-in-None c =
    let e : Differences = differences_of c.args.e in
    none_carried (declared_as (pair_by c.args.p.now) c.args.n (plain_initializer c.args.initial.now) e) (ranges_after (pair_by c.args.p.now) (plain_statement c.args.s.now) e.ranges) c.in_ok-after.field-0 c.in_ok-after.ensures c.in-None.is
