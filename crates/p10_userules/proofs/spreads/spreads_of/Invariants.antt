use Rattle.std.proofs.Common.{◌≡◌, ◌+◌, ◌≤◌, length, drop}
use Rattle.p10_userules.specs.private.Spreads.{AreSpreads}
use Rattle.p10_userules.proofs.spreads.spreads_of.Given as goal

abbrev pub invariant-loop-left : goal.invariant-loop-left
invariant-loop-left l =
    (l.left ≤ length l.occurrences) × (length l.spreads.items ≡ l.count) × AreSpreads l.kind (l.start + l.left) (drop l.left l.occurrences) l.spreads.items

abbrev pub decreases-loop-left : goal.decreases-loop-left
decreases-loop-left l = l.left
