use Rattle.std.proofs.Common.{◌≡◌, ◌≤◌, ◌∙◌, arith, sym}
use Rattle.p10_parse.proofs.ListSteps.{declarators_over, declarators_done, declarators_goes, declarators_scoped}
use Rattle.p10_parse.proofs.declaration.all_further.Goals as goal

pub loop-fuel-preserved : goal.loop-fuel-preserved
loop-fuel-preserved c = record {
  left = omega (arith, c.loop-fuel.invariant.left);
  scope = λ names at. declarators_scoped names _ _ _ _ _ c.in_ok-next.next (c.loop-fuel.invariant.scope names at) c.in_ok-next.ensures.scope c.in_ok-push_one.ensures;
  same = declarators_goes _ _ _ _ _ _ c.in_ok-next.next _ _ _ _ c.loop-fuel-test.true (sym c.if-not-heads.ensures) c.advance.ensures c.in_ok-next.ensures.ok c.in_ok-push_one.ensures c.in_ok-next.ensures.scope c.loop-fuel.invariant.same;
}

pub returns-clause-refused : goal.returns-clause-refused
returns-clause-refused c = λ refused. declarators_over _ _ _ _ _ _ (omega (arith, c.loop-fuel-test.false)) c.loop-fuel.invariant.same

pub returns-then-not-heads-clause-ok : goal.returns-then-not-heads-clause-ok
returns-then-not-heads-clause-ok c = sym c.loop-fuel.invariant.same ∙ declarators_done _ _ _ _ _ _ c.loop-fuel-test.true (sym c.if-not-heads.ensures) c.in_ok-expect.ensures.ok
