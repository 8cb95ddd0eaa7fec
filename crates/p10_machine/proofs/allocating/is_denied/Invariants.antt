-- The number is none of those so far.
use Rattle.std.proofs.Common.{◌≡◌, drop}
use Rattle.p10_meaning.specs.Values.{is_denied}
use Rattle.p10_machine.proofs.allocating.is_denied.Given as goal

abbrev pub invariant-loop-place : goal.invariant-loop-place
invariant-loop-place l = is_denied l.denied l.number ≡ is_denied (drop l.place l.denied) l.number
