use Rattle.std.proofs.Common.{◌≡◌, ◌≤◌, ◌-◌, length, drop}
use Rattle.p10_digests.specs.Lines.{bodies_from}
use Rattle.p10_digests.proofs.outside.advance.Given as goal

abbrev pub invariant-loop-next : goal.invariant-loop-next
invariant-loop-next l = record {
  inside : l.next ≤ length l.bodies;
  ahead : bodies_from l.number (drop l.next l.bodies) ≡ bodies_from l.number (drop l.place l.bodies);
}

abbrev pub decreases-loop-next : goal.decreases-loop-next
decreases-loop-next l = length l.bodies - l.next
