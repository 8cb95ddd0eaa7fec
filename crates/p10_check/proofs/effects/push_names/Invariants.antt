use Rattle.std.proofs.Common.{◌≡◌, ◌++◌, map, length}
use Rattle.p10_check.specs.Conditions.{failing_at_each}
use Rattle.p10_check.specs.Fails.{failures_of}
use Rattle.p10_check.proofs.effects.push_names.Given as goal

abbrev pub invariant-loop-calls : goal.invariant-loop-calls
invariant-loop-calls l = failures_of l.failing.items ++ failing_at_each 13 (map (λ c. c.name) l.calls) ≡ failures_of l.fn.failing.items ++ failing_at_each 13 (map (λ c. c.name) l.initial.calls)

abbrev pub decreases-loop-calls : goal.decreases-loop-calls
decreases-loop-calls l = length l.calls
