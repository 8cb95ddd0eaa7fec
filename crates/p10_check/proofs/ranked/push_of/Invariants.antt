use Rattle.std.proofs.Common.{◌≡◌, ◌++◌, length}
use Rattle.p10_check.specs.Passes.{places_of}
use Rattle.p10_check.specs.Conditions.{failing_at_each}
use Rattle.p10_check.specs.Fails.{failures_of}
use Rattle.p10_check.proofs.ranked.push_of.Given as goal

abbrev pub invariant-loop-fails : goal.invariant-loop-fails
invariant-loop-fails l = failures_of l.failing.items ++ failing_at_each l.k (places_of l.k (failures_of l.fails)) ≡ failures_of l.fn.failing.items ++ failing_at_each l.k (places_of l.k (failures_of l.initial.fails))

abbrev pub decreases-loop-fails : goal.decreases-loop-fails
decreases-loop-fails l = length l.fails
