use Rattle.std.proofs.Common.{None}
use Rattle.p10_core.specs.Views.{plain_value}
use Rattle.p10_absx.specs.Assessing.{assume_of}
use Rattle.p10_diff.specs.Knowing.{pair_by, differences_of}
use Rattle.p10_diff.specs.private.Conditions.{told_where}
use Rattle.p10_diff.proofs.Outcomes.{told_left, none_left}
use Rattle.p10_diff.proofs.conditions.ranged_where.Goals as goal

pub returns-in_ok-tell-in-Some : goal.returns-in_ok-tell-in-Some
returns-in_ok-tell-in-Some c =
    told_left (pair_by c.args.p.now) (plain_value c.args.v.now) c.args.truth (differences_of c.args.e) (differences_of c.tell.new.e) c.in_ok-after.field-0 c.in-Some.after c.in_ok-tell-in-Some.ensures c.in_ok-after.ensures c.in-Some.is

pub returns-in-None : goal.returns-in-None
returns-in-None c =
    let e = differences_of c.args.e in
    none_left (told_where (pair_by c.args.p.now) (plain_value c.args.v.now) c.args.truth e) (assume_of None (plain_value c.args.v.now) c.args.truth e.ranges) c.in_ok-after.field-0 c.in_ok-after.ensures c.in-None.is
