use Rattle.std.proofs.Common.{sym, ap, ◌∙◌, arith, length}
use Rattle.p10_elabx.specs.PlainScopes.{plain_scope}
use Rattle.p10_elab.specs.private.Opening.{with_tags}
use Rattle.p10_elab.proofs.OpenedBodies.{listed, tag_more, no_tag_more}
use Rattle.p10_elab.proofs.body_scopes.declare_tags.Goals as goal

pub loop-bound-preserved : goal.loop-bound-preserved
loop-bound-preserved c = record {
  tagged = tag_more (plain_scope c.loop-bound.scope) _ _ c.in-Some.bound _ _ c.in_ok-declare_tag.ensures c.in-Some.ensures.steps.0 c.loop-bound.invariant.tagged;
  counted = let was = c.loop-bound.invariant.counted in let gone = c.in-Some.ensures.steps.1 in let short = ap length c.in-Some.ensures.steps.0 in omega arith;
}

pub returns : goal.returns
returns c =
    no_tag_more (plain_scope c.loop-bound.scope) _ _ (sym c.loop-bound.invariant.counted ∙ c.in-None.ensures.steps.0)
    (c.loop-bound.invariant.tagged ∙ ap (λ bs. with_tags (plain_scope c.args.scope.now) (listed bs)) c.into_iter-bound-iterator.ensures.into_iter_gives.0)
