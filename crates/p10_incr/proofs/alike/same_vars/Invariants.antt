use Rattle.std.proofs.Common.{◌≡◌, length}
use Rattle.p10_incr.specs.Alike.{all_alike, same_var}
use Rattle.p10_incr.proofs.alike.same_vars.Given as goal

abbrev pub invariant-loop-v : goal.invariant-loop-v
invariant-loop-v l = all_alike same_var l.these l.others ≡ all_alike same_var l.left l.further

abbrev pub decreases-loop-v : goal.decreases-loop-v
decreases-loop-v l = length l.left
