use Rattle.std.proofs.Common.{map}
use Rattle.p10_core.specs.Views.{plain_variable}
use Rattle.p10_diff.specs.Evidence.{stay_in_scope}
use Rattle.p10_diff.proofs.Standing.{scope_next, scope_left}
use Rattle.p10_diff.proofs.ranks.stay_in_scope.Goals as goal

pub loop-n-preserved : goal.loop-n-preserved
loop-n-preserved c =
    scope_next c.loop-n.n c.args.variables.now c.args.before.now.values c.args.after.now.values (stay_in_scope 0 (map plain_variable c.args.variables.now) c.args.before.now.values c.args.after.now.values)
    c.loop-n-test.true c.loop-n.invariant c.if-not-stays.ensures

pub returns-then-not-stays : goal.returns-then-not-stays
returns-then-not-stays c =
    scope_left c.loop-n.n c.args.variables.now c.args.before.now.values c.args.after.now.values (stay_in_scope 0 (map plain_variable c.args.variables.now) c.args.before.now.values c.args.after.now.values)
    c.loop-n-test.true c.loop-n.invariant c.if-not-stays.ensures
