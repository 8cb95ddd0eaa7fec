-- None so far has too many turns.
use Rattle.std.proofs.Common.{◌≡◌, drop, map}
use Rattle.p10_cert.specs.Claims.{loop_of}
use Rattle.p10_finder.specs.private.Limits.{long_in}
use Rattle.p10_finder.proofs.limits.has_long.Given as goal

abbrev pub invariant-loop-claim : goal.invariant-loop-claim
invariant-loop-claim l = long_in (map loop_of (drop l.claim-index l.loops)) ≡ long_in (map loop_of l.loops)
