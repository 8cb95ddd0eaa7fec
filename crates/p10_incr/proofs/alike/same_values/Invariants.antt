use Rattle.std.proofs.Common.{◌≡◌, map, length}
use Rattle.p10_cert.specs.Claims.{value_of}
use Rattle.p10_incr.specs.Alike.{all_alike, same_value}
use Rattle.p10_incr.proofs.alike.same_values.Given as goal

abbrev pub invariant-loop-these : goal.invariant-loop-these
invariant-loop-these l = all_alike same_value (map value_of l.initial.these) (map value_of l.initial.others) ≡ all_alike same_value (map value_of l.these) (map value_of l.others)

abbrev pub decreases-loop-these : goal.decreases-loop-these
decreases-loop-these l = length l.these
