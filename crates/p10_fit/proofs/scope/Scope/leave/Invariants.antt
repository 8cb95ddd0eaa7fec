use Rattle.std.proofs.Common.{◌≡◌, ◌≤◌, length, take}
use Rattle.p10_fit.proofs.scope.Scope.leave.Given as goal

abbrev pub invariant-loop-self : goal.invariant-loop-self
invariant-loop-self l = record {
  left : take l.count l.self.numbers.items ≡ take l.count l.fn.self.numbers.items;
  many : l.count ≤ length l.self.numbers.items;
  same : length l.self.counts.items ≡ length l.fn.self.counts.items;
}

abbrev pub decreases-loop-self : goal.decreases-loop-self
decreases-loop-self l = length l.self.numbers.items
