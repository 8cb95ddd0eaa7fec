-- The stretches that were passed on both sides have not all of the occurrences.
use Rattle.std.proofs.Common.{◌-◌}
use Rattle.p10_userules.proofs.Searching.{AllFail}
use Rattle.p10_userules.proofs.spreads.some_lie_in_one.Given as goal

abbrev pub invariant-loop-low : goal.invariant-loop-low
invariant-loop-low l = AllFail l.spread l.stretches l.low l.high

abbrev pub decreases-loop-low : goal.decreases-loop-low
decreases-loop-low l = l.high - l.low
