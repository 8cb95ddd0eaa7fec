use Rattle.std.proofs.Common.{◌≡◌, map, length, drop}
use Rattle.p10_core.specs.Views.{plain_function, plain_statements}
use Rattle.p10_cert.specs.Claims.{loop_of}
use Rattle.p10_fit.specs.Sites.{loop_sites_of, in_scope_after_all}
use Rattle.p10_fit.specs.private.Following.{claims_after}
use Rattle.p10_fit.proofs.loops.+follow.Given as goal

abbrev pub invariant-follow_all-loop-s : goal.invariant-follow_all-loop-s
invariant-follow_all-loop-s l = record {
  claims :
      claims_after (plain_function l.compared.function.now) l.compared.task (loop_sites_of l.depth l.fn.scope.numbers.items (plain_statements l.all)) (map loop_of (drop l.fn.place l.compared.claims.now))
      ≡ claims_after (plain_function l.compared.function.now) l.compared.task (loop_sites_of l.depth l.scope.numbers.items (plain_statements (drop l.s-index l.all))) (map loop_of (drop l.place l.compared.claims.now));
  scope : in_scope_after_all l.fn.scope.numbers.items (plain_statements l.all) ≡ in_scope_after_all l.scope.numbers.items (plain_statements (drop l.s-index l.all));
  same : length l.scope.counts.items ≡ length l.fn.scope.counts.items;
}
