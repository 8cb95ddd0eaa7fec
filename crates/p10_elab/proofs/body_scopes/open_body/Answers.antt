use Rattle.std.proofs.Common.{ap, ◌∙◌}
use Rattle.p10_bindings.specs.Taken.{names_of}
use Rattle.p10_elabx.specs.Scopes.{PlainScope}
use Rattle.p10_elabx.specs.Views.{bindings_of}
use Rattle.p10_elabs.specs.FrameViews.{plain_frame}
use Rattle.p10_elab.specs.private.Opening.{in_body, with_names, with_tags}
use Rattle.p10_elab.proofs.body_scopes.open_body.Goals as goal

pub returns : goal.returns
returns c =
    c.in_ok-declare_tags.ensures
    ∙ ap (λ (s : PlainScope). with_tags s (bindings_of (names_of c.args.tags.items)))
    (c.in_ok-declare_names.ensures ∙ ap (λ (s : PlainScope). with_names s (in_body (plain_frame c.args.frame.now) (bindings_of (names_of c.args.names.items)))) c.in_ok-enter.ensures.ok)
