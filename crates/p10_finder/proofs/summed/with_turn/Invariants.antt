-- The loops so far.
use Rattle.std.proofs.Common.{◌≡◌, take, map}
use Rattle.p10_cert.specs.Claims.{loop_of}
use Rattle.p10_finder.specs.Functions.{with_turn_steps}
use Rattle.p10_finder.proofs.summed.with_turn.Given as goal

abbrev pub invariant-loop-claim : goal.invariant-loop-claim
invariant-loop-claim l = map loop_of l.loops.items ≡ map (with_turn_steps l.steps) (map loop_of (take l.claim-index l.claims))
