-- Each call goes one type deeper.
use Rattle.p10_machine.proofs.kinds.+kind_within.Given as goal

abbrev pub decreases-kind_within : goal.decreases-kind_within
decreases-kind_within l = l.depth
