use Rattle.std.proofs.Common.{◌≡◌, length}
use Rattle.std.specs.Vec.Iter.{into_iter_items, into_iter_len}
use Rattle.p10_elabx.specs.PlainScopes.{plain_scope}
use Rattle.p10_elabs.specs.FrameViews.{plain_frame}
use Rattle.p10_elab.specs.private.Opening.{in_body, with_names}
use Rattle.p10_elab.proofs.OpenedBodies.{listed}
use Rattle.p10_elab.proofs.body_scopes.declare_names.Given as goal

abbrev pub invariant-loop-bound : goal.invariant-loop-bound
invariant-loop-bound l = record {
  named : with_names (plain_scope l.scope) (in_body (plain_frame l.frame) (listed (into_iter_items l.bound-iterator))) ≡ with_names (plain_scope l.initial.scope) (in_body (plain_frame l.frame) (listed (into_iter_items l.initial.bound-iterator)));
  counted : into_iter_len l.bound-iterator ≡ length (into_iter_items l.bound-iterator);
}
