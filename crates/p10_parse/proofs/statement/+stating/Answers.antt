use Rattle.std.proofs.Common.{◌≡◌, ◌≤◌, ◌∙◌, arith, sym, take}
use Rattle.p10_syn.specs.BuiltStatements.{bare_statement_of}
use Rattle.p10_parse.proofs.Extending.{forgotten, kept_names, stated}
use Rattle.p10_parse.proofs.ListSteps.{items_over, items_goes}
use Rattle.p10_parse.proofs.statement.+stating.Goals as goal

pub all_items-loop-fuel-preserved : goal.all_items-loop-fuel-preserved
all_items-loop-fuel-preserved t c =
    let kept = kept_names _ _ _ _ (bare_statement_of c.in-Ok.next) c.in-Ok.ensures.scope c.loop-fuel.invariant.room c.loop-fuel.invariant.start in
    record {
      left = omega (arith, c.loop-fuel.invariant.left);
      room = kept.0;
      start = kept.1;
      same = items_goes _ _ _ _ _ c.in-Ok.next _ _ _ c.loop-fuel-test.true (sym c.if-heads.ensures) c.in-Ok.ensures.ok c.in_ok-push_one-in-Ok.ensures c.in-Ok.ensures.scope c.loop-fuel.invariant.same;
    }

pub all_items-returns-clause-refused : goal.all_items-returns-clause-refused
all_items-returns-clause-refused t c = λ refused. items_over _ _ _ _ _ (omega (arith, c.loop-fuel-test.false)) c.loop-fuel.invariant.same

pub all_items-returns-then-heads-clause-scope : goal.all_items-returns-then-heads-clause-scope
all_items-returns-then-heads-clause-scope t c = c.forget.ensures ∙ c.loop-fuel.invariant.start

pub for_loop-returns-in-Ok-for_test-clause-scope : goal.for_loop-returns-in-Ok-for_test-clause-scope
for_loop-returns-in-Ok-for_test-clause-scope t c = c.forget.ensures ∙ forgotten _ _ (bare_statement_of c.in-Ok.start) _ c.count-count.ensures (c.in-Ok-for_test.ensures.scope ∙ c.in-Ok.ensures.scope)

pub item-returns-else-begins_declaration-clause-scope : goal.item-returns-else-begins_declaration-clause-scope
item-returns-else-begins_declaration-clause-scope t c = stated c.statement.result _ _ _ _ _ c.statement.ensures.ok c.statement.ensures.scope
