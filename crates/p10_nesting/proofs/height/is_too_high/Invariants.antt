use Rattle.std.proofs.Common.{length}
use Rattle.p10_nesting.proofs.height.is_too_high.Given as goal

abbrev pub decreases-loop-rest : goal.decreases-loop-rest
decreases-loop-rest l = length l.rest
