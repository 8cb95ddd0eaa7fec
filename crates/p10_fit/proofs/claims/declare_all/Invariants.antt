use Rattle.std.proofs.Common.{◌≡◌, length, drop}
use Rattle.p10_core.specs.Views.{plain_statements}
use Rattle.p10_fit.specs.Sites.{in_scope_after_all}
use Rattle.p10_fit.proofs.claims.declare_all.Given as goal

abbrev pub invariant-loop-s : goal.invariant-loop-s
invariant-loop-s l = record {
  scope : in_scope_after_all l.fn.scope.numbers.items (plain_statements l.first) ≡ in_scope_after_all l.scope.numbers.items (plain_statements (drop l.s-index l.first));
  same : length l.scope.counts.items ≡ length l.fn.scope.counts.items;
}
