use Rattle.std.proofs.Common.{◌≡◌, length}
use Rattle.std.specs.Vec.Iter.{into_iter_items, into_iter_len}
use Rattle.p10_elabx.specs.PlainScopes.{plain_scope}
use Rattle.p10_elab.specs.private.Opening.{with_tags}
use Rattle.p10_elab.proofs.OpenedBodies.{listed}
use Rattle.p10_elab.proofs.body_scopes.declare_tags.Given as goal

abbrev pub invariant-loop-bound : goal.invariant-loop-bound
invariant-loop-bound l = record {
  tagged : with_tags (plain_scope l.scope) (listed (into_iter_items l.bound-iterator)) ≡ with_tags (plain_scope l.initial.scope) (listed (into_iter_items l.initial.bound-iterator));
  counted : into_iter_len l.bound-iterator ≡ length (into_iter_items l.bound-iterator);
}
