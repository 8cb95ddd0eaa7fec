use Rattle.std.proofs.Common.{◌≡◌, length}
use Rattle.std.specs.Prelude.{option_map}
use Rattle.p10_pass.specs.Leaving.{failing_of}
use Rattle.p10_check.specs.Fails.{failures_of}
use Rattle.p10_incr.specs.Rechecking.{first_from}
use Rattle.p10_incr.proofs.first.first_from.Given as goal

abbrev pub invariant-loop-fails : goal.invariant-loop-fails
invariant-loop-fails l = first_from (option_map failing_of l.found) (failures_of l.fails) ≡ first_from (option_map failing_of l.fn.first) (failures_of l.initial.fails)

abbrev pub decreases-loop-fails : goal.decreases-loop-fails
decreases-loop-fails l = length l.fails
