-- Fewer variables are left.
use Rattle.std.proofs.Common.{length}
use Rattle.p10_interp.proofs.calls_at_once.+fill_frame.Given as goal

abbrev pub decreases-fill_frame : goal.decreases-fill_frame
decreases-fill_frame l = length l.variables.now
