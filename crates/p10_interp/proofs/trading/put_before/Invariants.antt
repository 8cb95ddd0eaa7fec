-- The bytes from a place on stand before those that were pending.
use Rattle.std.proofs.Common.{◌≡◌, ◌≤◌, ◌++◌, drop, length}
use Rattle.p10_interp.proofs.trading.put_before.Given as goal

abbrev pub invariant-bytes : goal.invariant-bytes
invariant-bytes l = (l.left ≤ length l.bytes) × (l.pending ≡ drop l.left l.bytes ++ l.initial.pending)

abbrev pub decreases-bytes : goal.decreases-bytes
decreases-bytes l = l.left
