use Rattle.std.proofs.Common.{◌≡◌, length}
use Rattle.std.specs.Prelude.{bytes_eq}
use Rattle.p10_incr.specs.Alike.{all_alike}
use Rattle.p10_incr.proofs.sections.all_same.Given as goal

abbrev pub invariant-loop-these : goal.invariant-loop-these
invariant-loop-these l = all_alike bytes_eq l.initial.these l.initial.others ≡ all_alike bytes_eq l.these l.others

abbrev pub decreases-loop-these : goal.decreases-loop-these
decreases-loop-these l = length l.these
