-- Fewer variables are left.
use Rattle.std.proofs.Common.{length}
use Rattle.p10_interp.proofs.calls_at_once.+leave_absent.Given as goal

abbrev pub decreases-leave_absent : goal.decreases-leave_absent
decreases-leave_absent l = length l.variables.now
