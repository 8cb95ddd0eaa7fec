use Rattle.std.proofs.Common.{arith, sym, ◌∙◌}
use Rattle.std.proofs.lemmas.Bool.{not-true, not-false}
use Rattle.p10_direct.proofs.Repeats.{one_more, still_none, stands_twice}
use Rattle.p10_direct.proofs.definition.has_repeated_text.Goals as goal

pub returns-then-not-branch : goal.returns-then-not-branch
returns-then-not-branch c =
    stands_twice _ _ _ _ c.loop-place-test.true c.loop-place.invariant.inside c.loop-place.invariant.texts (not-false _ (sym c.in_ok-insert.ensures.added ∙ c.if-not-branch.true))

pub loop-place-preserved : goal.loop-place-preserved
loop-place-preserved c = record {
  inside = omega arith;
  texts = one_more _ _ _ _ _ c.loop-place-test.true c.loop-place.invariant.inside c.loop-place.invariant.texts c.in_ok-insert.ensures.updates.0;
  none = still_none _ _ _ _ c.loop-place-test.true c.loop-place.invariant.inside c.loop-place.invariant.texts (not-true _ (sym c.in_ok-insert.ensures.added ∙ c.if-not-branch.false)) c.loop-place.invariant.none;
}
