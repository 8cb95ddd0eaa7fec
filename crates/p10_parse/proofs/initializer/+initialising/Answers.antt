use Rattle.std.proofs.Common.{◌≡◌, ◌≤◌, ◌∙◌, arith, sym, rules}
use Rattle.p10_parse.proofs.ListSteps.{initializers_over, initializers_done, initializers_unclosed, initializers_goes}
use Rattle.p10_parse.proofs.initializer.+initialising.Goals as goal

pub all_initializers-returns-in_err-ends_with_comma-clause-refused : goal.all_initializers-returns-in_err-ends_with_comma-clause-refused
all_initializers-returns-in_err-ends_with_comma-clause-refused t c = search (rules, initializers_unclosed)

pub all_initializers-returns-then-ends_initializers-clause-ok : goal.all_initializers-returns-then-ends_initializers-clause-ok
all_initializers-returns-then-ends_initializers-clause-ok t c = initializers_done _ _ _ _ _ _ _ _ _ _ c.loop-fuel-test.true c.in_ok-next.ensures.ok c.in_ok-push_one.ensures (sym c.if-ends_initializers.ensures) c.in_ok-ends_with_comma.ensures.ok c.loop-fuel.invariant.same

pub all_initializers-loop-fuel-preserved : goal.all_initializers-loop-fuel-preserved
all_initializers-loop-fuel-preserved t c = record {
  left = omega (arith, c.loop-fuel.invariant.left);
  scope = c.in_ok-next.ensures.scope ∙ c.loop-fuel.invariant.scope;
  same = initializers_goes _ _ _ _ _ _ _ _ _ _ c.loop-fuel-test.true c.in_ok-next.ensures.ok c.in_ok-push_one.ensures (sym c.if-ends_initializers.ensures) c.advance.ensures c.in_ok-next.ensures.scope c.loop-fuel.invariant.same;
}

pub all_initializers-returns-clause-refused : goal.all_initializers-returns-clause-refused
all_initializers-returns-clause-refused t c = λ refused. initializers_over _ _ _ _ _ (omega (arith, c.loop-fuel-test.false)) c.loop-fuel.invariant.same
