use Rattle.std.proofs.Common.{◌≡◌, ◌++◌, map, length}
use Rattle.p10_pass.specs.Leaving.{weakness_by}
use Rattle.p10_check.specs.Conditions.{failing_at_each}
use Rattle.p10_check.specs.Fails.{failures_of}
use Rattle.p10_check.specs.private.Ranked.{unranked_by}
use Rattle.p10_check.proofs.ranked.push_unranked.Given as goal

abbrev pub invariant-loop-weak : goal.invariant-loop-weak
invariant-loop-weak l =
    failures_of l.failing.items ++ failing_at_each l.k (unranked_by l.k l.stood (map weakness_by l.weak))
    ≡ failures_of l.fn.failing.items ++ failing_at_each l.k (unranked_by l.k l.initial.stood (map weakness_by l.initial.weak))

abbrev pub decreases-loop-weak : goal.decreases-loop-weak
decreases-loop-weak l = length l.weak
