use Rattle.std.proofs.Common.{drop}
use Rattle.p10_sums.proofs.Frames.{Counts, bytes_sum}
use Rattle.p10_sums.proofs.functions.frame_bytes.Given as goal

-- the total so far, and what is left
abbrev pub invariant-loop-variable : goal.invariant-loop-variable
invariant-loop-variable l = Counts (bytes_sum l.variables) l.total (bytes_sum (drop l.variable-index l.variables))
