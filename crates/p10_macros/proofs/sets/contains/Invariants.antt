use Rattle.std.proofs.Common.{◌≡◌}
use Rattle.p10_macros.specs.private.Sets.{has}
use Rattle.p10_macros.proofs.sets.contains.Given as goal

-- the number is in the set where it is in the one on the way down
abbrev pub invariant-loop-part : goal.invariant-loop-part
invariant-loop-part l = has l.parts l.at l.number ≡ has l.parts l.set l.number

abbrev pub decreases-loop-part : goal.decreases-loop-part
decreases-loop-part l = l.at
