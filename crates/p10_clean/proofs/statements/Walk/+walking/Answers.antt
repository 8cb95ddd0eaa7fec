use Rattle.std.proofs.Common.{◌∙◌, ap, sym}
use Rattle.p10_core.specs.Views.{plain_labels}
use Rattle.p10_pass.specs.Leaving.{values_in}
use Rattle.p10_pass.specs.Manners.{manner_by}
use Rattle.p10_pass.specs.Marks.{is_marked}
use Rattle.p10_clean.specs.private.Code.{settings_of}
use Rattle.std.proofs.lemmas.Result.{on_ok_weaker}
use Rattle.p10_absx.specs.Trails.{Branching}
use Rattle.p10_clean.proofs.Forms.{block_put, switched_put, loop_put, while_put, if_put}
use Rattle.p10_clean.proofs.Walked.{known_next, set_next, flaws_next, known_end, set_end, flaws_end, cases_next, cases_end}
use Rattle.p10_clean.proofs.statements.Walk.+walking.Goals as goal

pub put_all-loop-s-preserved : goal.put_all-loop-s-preserved
put_all-loop-s-preserved t c = record {
  known = known_next (manner_by c.args.self.now.m.now) _ (values_in c.loop-s.at.known) (values_in c.put_next.new.at.known) c.args.items.now c.loop-s.s-index c.s-item.result c.loop-s-test.true c.s-item.is c.in_ok-put_next.ensures.known c.loop-s.invariant.known;
  set_there = set_next _ (settings_of c.loop-s.at.set) (settings_of c.put_next.new.at.set) c.args.items.now c.loop-s.s-index c.s-item.result c.loop-s-test.true c.s-item.is c.in_ok-put_next.ensures.set c.loop-s.invariant.set_there;
  put = flaws_next (manner_by c.args.self.now.m.now) _ c.loop-s.flaws.items c.put_next.new.flaws.items (values_in c.loop-s.at.known) (values_in c.put_next.new.at.known) (settings_of c.loop-s.at.set) (settings_of c.put_next.new.at.set)
      c.args.items.now c.loop-s.s-index c.s-item.result c.loop-s-test.true c.s-item.is c.in_ok-put_next.ensures.known c.in_ok-put_next.ensures.set c.in_ok-put_next.ensures.flaws c.loop-s.invariant.put;
}

pub put_all-returns : goal.put_all-returns
put_all-returns t c = record {
  known = known_end (manner_by c.args.self.now.m.now) _ (values_in c.loop-s.at.known) c.args.items.now c.loop-s.s-index c.loop-s-test.false c.loop-s.invariant.known;
  set = set_end _ (settings_of c.loop-s.at.set) c.args.items.now c.loop-s.s-index c.loop-s-test.false c.loop-s.invariant.set_there;
  flaws = flaws_end (manner_by c.args.self.now.m.now) _ c.loop-s.flaws.items (values_in c.loop-s.at.known) (settings_of c.loop-s.at.set) c.args.items.now c.loop-s.s-index c.loop-s-test.false c.loop-s.invariant.put;
}

pub put_cases-loop-k-preserved : goal.put_cases-loop-k-preserved
put_cases-loop-k-preserved t c =
    cases_next (manner_by c.args.self.now.m.now) (plain_labels c.args.labels.now) (settings_of c.args.set.now) c.args.env.now.values _ c.loop-k.flaws.items c.put_next.new.flaws.items
    (values_in c.loop-k.at.known) (values_in c.enter_case.new.self.known) (values_in c.put_next.new.at.known) (settings_of c.loop-k.at.set) (settings_of c.enter_case.new.self.set) (settings_of c.put_next.new.at.set)
    c.args.items.now c.loop-k.k c.index-items-k.result c.is_marked-labelled.result c.loop-k-test.true c.index-items-k.is
    (c.is_marked-labelled.ensures ∙ (ap (λ bs. is_marked bs c.loop-k.k) c.as_slice.ensures.value ∙ c.in_ok-marks.ensures.each c.loop-k.k c.loop-k-test.true))
    c.in_ok-enter_case.ensures.known c.in_ok-enter_case.ensures.set c.in_ok-put_next.ensures.known c.in_ok-put_next.ensures.set c.in_ok-put_next.ensures.flaws c.loop-k.invariant

pub put_cases-returns : goal.put_cases-returns
put_cases-returns t c =
    cases_end (manner_by c.args.self.now.m.now) (plain_labels c.args.labels.now) (settings_of c.args.set.now) c.args.env.now.values _ c.loop-k.flaws.items (values_in c.loop-k.at.known) (settings_of c.loop-k.at.set)
    c.args.items.now c.loop-k.k c.loop-k-test.false c.loop-k.invariant

pub put_statement-returns-in-Block-clause-flaws : goal.put_statement-returns-in-Block-clause-flaws
put_statement-returns-in-Block-clause-flaws t c =
    on_ok_weaker _ (λ q. block_put (manner_by c.args.self.now.m.now) c.args.s.now.at c.args.s.now.form c.in-Block.items c.as_slice.result.now (settings_of c.args.set.now) c.args.env.now.values
    c.args.flaws.now.items c.put_block.new.flaws.items c.in-Block.is c.as_slice.ensures q) c.put_block.ensures

pub put_switched-returns-in-Block : goal.put_switched-returns-in-Block
put_switched-returns-in-Block t c =
    on_ok_weaker _ (λ q. switched_put (manner_by c.args.self.now.m.now) (plain_labels c.args.labels.now) c.args.body.now.at c.args.body.now.form c.in-Block.items c.as_slice.result.now (settings_of c.args.set.now) c.args.env.now.values
    c.args.flaws.now.items c.put_cases.new.flaws.items c.in-Block.is c.as_slice.ensures q) c.put_cases.ensures

pub put_loop-returns-in_ok-put_all-in-Loop : goal.put_loop-returns-in_ok-put_all-in-Loop
put_loop-returns-in_ok-put_all-in-Loop t c =
    on_ok_weaker _ (λ q. loop_put (manner_by c.args.self.now.m.now) c.args.s.now.at c.args.s.now.form c.in-Loop.field-0 c.in-Loop.first c.in-Loop.field-2 c.in-Loop.field-3 c.in-Loop.field-4 c.as_slice.result.now
    (settings_of c.args.set.now) (settings_of c.in_ok-at-in-Loop.at.set) (settings_of c.put_all.new.at.set) c.args.env.now.values (values_in c.in_ok-at-in-Loop.at.known) (values_in c.put_all.new.at.known)
    c.args.flaws.now.items c.put_all.new.flaws.items c.put_entered.new.flaws.items c.in-Loop.is c.as_slice.ensures c.in_ok-at-in-Loop.ensures.known c.in_ok-at-in-Loop.ensures.set
    c.in_ok-put_all-in-Loop.ensures.known c.in_ok-put_all-in-Loop.ensures.set c.in_ok-put_all-in-Loop.ensures.flaws q) c.put_entered.ensures

pub put_round-returns-in_ok-again-in-While : goal.put_round-returns-in_ok-again-in-While
put_round-returns-in_ok-again-in-While t c =
    on_ok_weaker _ (λ q. while_put (manner_by c.args.self.now.m.now) c.args.s.now.at c.args.s.now.form c.in-Loop.head c.in-Loop.field-1 c.in-Loop.test c.in-Loop.third c.in-Loop.body c.as_slice.result.now c.deref-in-While.result.now c.deref-in-While-2.result.now
    (settings_of c.args.set.now) (settings_of c.in_ok-here-in-While.here.set) (settings_of c.in_ok-next-in-While.next.set) c.args.top.now.values
    (values_in c.in_ok-here-in-While.here.known) (values_in c.in_ok-truth-in-While.truth) (values_in c.in_ok-again-in-While.again) (values_in c.in_ok-next-in-While.next.known)
    c.args.flaws.now.items c.put_test-in-While.new.flaws.items c.put_all.new.flaws.items c.put_there-in-While.new.flaws.items
    c.in-Loop.is c.as_slice.ensures c.deref-in-While.ensures (c.deref-in-While-2.ensures ∙ sym c.deref-in-While.ensures) c.in-While.is
    c.in_ok-here-in-While.ensures.known c.in_ok-here-in-While.ensures.set c.in_ok-put_test-in-While.ensures c.in_ok-truth-in-While.ensures c.in_ok-next-in-While.ensures.known c.in_ok-next-in-While.ensures.set
    c.in_ok-put_all-in-While.ensures.flaws c.in_ok-again-in-While.ensures q) c.put_there-in-While.ensures

pub put_branches-returns-in_ok-put_there-in-If-clause-flaws : goal.put_branches-returns-in_ok-put_there-in-If-clause-flaws
put_branches-returns-in_ok-put_there-in-If-clause-flaws t c =
    on_ok_weaker _ (λ q. if_put (manner_by c.args.self.now.m.now) c.args.s.now.at c.args.s.now.form c.in-If.v c.in-If.then c.in-If.other c.deref.result.now
    (settings_of c.args.set.now) c.args.env.now.values c.put_value.new.env.values (values_in c.in_ok-truth-in-If.truth) c.args.flaws.now.items c.put_value.new.flaws.items c.put_there.new.flaws.items c.put_otherwise.new.flaws.items
    c.in-If.is c.deref.ensures (ap (λ (b : Branching). b.values) c.in_ok-put_value-in-If.ensures.same)
    c.in_ok-truth-in-If.ensures c.in_ok-put_value-in-If.ensures.flaws c.in_ok-put_there-in-If.ensures q) c.put_otherwise.ensures
