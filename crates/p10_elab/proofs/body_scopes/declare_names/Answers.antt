use Rattle.std.proofs.Common.{sym, ap, ◌∙◌, arith, length}
use Rattle.p10_elabx.specs.PlainScopes.{plain_scope}
use Rattle.p10_elabs.specs.FrameViews.{plain_frame}
use Rattle.p10_elab.specs.private.Opening.{in_body, with_names}
use Rattle.p10_elab.proofs.OpenedBodies.{listed, name_more, no_name_more}
use Rattle.p10_elab.proofs.body_scopes.declare_names.Goals as goal

pub loop-bound-preserved : goal.loop-bound-preserved
loop-bound-preserved c = record {
  named = name_more (plain_frame c.args.frame.now) (plain_scope c.loop-bound.scope) _ _ c.in-Some.bound _ _ c.in_ok-declare_in_body.ensures c.in-Some.ensures.steps.0 c.loop-bound.invariant.named;
  counted = let was = c.loop-bound.invariant.counted in let gone = c.in-Some.ensures.steps.1 in let short = ap length c.in-Some.ensures.steps.0 in omega arith;
}

pub returns : goal.returns
returns c =
    no_name_more (plain_frame c.args.frame.now) (plain_scope c.loop-bound.scope) _ _ (sym c.loop-bound.invariant.counted ∙ c.in-None.ensures.steps.0)
    (c.loop-bound.invariant.named ∙ ap (λ bs. with_names (plain_scope c.args.scope.now) (in_body (plain_frame c.args.frame.now) (listed bs))) c.into_iter-bound-iterator.ensures.into_iter_gives.0)
