use Rattle.std.proofs.Common.{◌≡◌, length}
use Rattle.p10_core.specs.WholePrograms.{numbers_from}
use Rattle.p10_fit.proofs.scope.Scope.declare_first.Given as goal

abbrev pub invariant-loop-number : goal.invariant-loop-number
invariant-loop-number l = record {
  numbers : l.self.numbers.items ≡ numbers_from 0 l.number;
  same : length l.self.counts.items ≡ length l.fn.self.counts.items;
}
