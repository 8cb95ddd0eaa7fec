use Rattle.std.proofs.Common.{◌≡◌, ◌≤◌, take}
use Rattle.p10_expand.specs.Gathering.{present}
use Rattle.p10_expand.proofs.gathering.Gathering.present.Given as goal

abbrev pub invariant-loop-known : goal.invariant-loop-known
invariant-loop-known l = record {
  counted : l.count ≡ present (take l.known-index l.self.known.items);
  few : l.count ≤ l.known-index;
}
