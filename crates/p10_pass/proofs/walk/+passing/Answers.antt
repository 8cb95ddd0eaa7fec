use Rattle.std.proofs.Common.{◌∙◌, ap, sym, map}
use Rattle.std.specs.Option.{option_map, option_copied}
use Rattle.std.proofs.lemmas.Result.{IfOk-weaker}
use Rattle.p10_core.specs.Views.{plain_labels, plain_statement}
use Rattle.p10_cert.specs.Claims.{loop_of}
use Rattle.p10_pass.specs.Rounds.{round_by}
use Rattle.p10_pass.specs.Leaving.{values_in, left_of}
use Rattle.p10_pass.specs.Manners.{manner_by}
use Rattle.p10_pass.specs.Marks.{is_marked}
use Rattle.p10_pass.specs.private.Walking.{tested_by}
use Rattle.p10_pass.proofs.PassedLists.{statements_next, statements_end}
use Rattle.p10_pass.proofs.Arms.{block_passed, body_passed, claimed_whole, tried_whole, entered_whole, under_passed, while_rounded, is_before, cases_next}
use Rattle.p10_pass.proofs.walk.+passing.Goals as goal

pub entered-returns-in-Some : goal.entered-returns-in-Some
entered-returns-in-Some t c =
    IfOk-weaker _ _ _ (λ l is. entered_whole (manner_by c.args.m.now) (loop_of c.args.claim.now) (plain_statement c.args.s.now) c.args.entry.values c.in_ok-at_head.at_head c.in_ok-round.field-0 c.in-Some.round (left_of l)
    c.in_ok-at_head.ensures c.in_ok-round.ensures c.in-Some.is is) c.left_after.ensures

pub one_round-returns-in_ok-round_before-in-While : goal.one_round-returns-in_ok-round_before-in-While
one_round-returns-in_ok-round_before-in-While t c =
    while_rounded (manner_by c.args.m.now) c.args.s.now.at c.args.s.now.form c.in-Loop.head c.in-Loop.field-1 c.in-Loop.test c.in-Loop.third c.in-Loop.body c.as_slice.result.now c.deref-in-While.result.now c.args.env.values
    (tested_by c.in_ok-tested-in-While.tested) (values_in c.in_ok-entering-in-While.entering) (values_in c.in_ok-next-in-While.next) (left_of c.in_ok-passed-in-While.passed) (left_of c.in_ok-closed-in-While.closed) (round_by c.in_ok-round_before-in-While.field-0)
    c.in-Loop.is c.as_slice.ensures c.deref-in-While.ensures (is_before c.in-Loop.head.keyword c.in-While.is) c.in_ok-tested-in-While.ensures c.in_ok-entering-in-While.ensures c.in_ok-passed-in-While.ensures c.in_ok-next-in-While.ensures c.in_ok-closed-in-While.ensures c.in_ok-round_before-in-While.ensures

pub pass_body-returns-in_ok-end_switch-in-Block : goal.pass_body-returns-in_ok-end_switch-in-Block
pass_body-returns-in_ok-end_switch-in-Block t c =
    body_passed (manner_by c.args.m.now) (plain_labels c.args.labels.now) c.args.body.now.at c.args.body.now.form c.in-Block.items c.as_slice.result.now c.as_slice-in-Block.result.now c.args.env.values
    (left_of c.in_ok-left-in-Block.left) (left_of c.end_block.new.self) (left_of c.end_switch.new.self) c.in-Block.is c.as_slice.ensures (c.as_slice-in-Block.ensures ∙ sym c.as_slice.ensures)
    c.in_ok-left-in-Block.ensures c.end_block.ensures c.in_ok-end_switch-in-Block.ensures

pub pass_cases-loop-k-preserved : goal.pass_cases-loop-k-preserved
pass_cases-loop-k-preserved t c =
    cases_next (manner_by c.args.m.now) (plain_labels c.args.labels.now) c.args.env.now.values _ (left_of c.loop-k.total) (left_of c.pass_case.new.total) c.args.items.now c.loop-k.k c.index-items-k.result c.is_marked.result
    c.loop-k-test.true c.index-items-k.is (c.is_marked.ensures ∙ (ap (λ bs. is_marked bs c.loop-k.k) c.as_slice.ensures.value ∙ c.in_ok-marks.ensures.each c.loop-k.k c.loop-k-test.true)) c.in_ok-pass_case.ensures c.loop-k.invariant

pub pass_loop-returns-in-Some-loops : goal.pass_loop-returns-in-Some-loops
pass_loop-returns-in-Some-loops t c =
    IfOk-weaker _ _ _ (λ l is. claimed_whole (manner_by c.args.m.now) (plain_statement c.args.s.now) c.in-Some.head (map loop_of c.in-Some-loops.loops.now) (option_map loop_of (option_copied c.claim_at.result)) c.args.env.values (left_of l)
    c.claim_at.ensures (sym c.head_in.ensures ∙ c.in-Some.is) (ap (λ o. option_map (map loop_of) (option_copied o)) c.in-Some-loops.is) is) c.pass_claimed.ensures

pub pass_loop-returns-in-None-loops : goal.pass_loop-returns-in-None-loops
pass_loop-returns-in-None-loops t c =
    IfOk-weaker _ _ _ (λ l is. tried_whole (manner_by c.args.m.now) (plain_statement c.args.s.now) c.in-Some.head c.args.env.values (left_of l)
    (sym c.head_in.ensures ∙ c.in-Some.is) (ap (λ o. option_map (map loop_of) (option_copied o)) c.in-None-loops.is) is) c.forgotten.ensures

pub pass_statement-returns-in-Block : goal.pass_statement-returns-in-Block
pass_statement-returns-in-Block t c =
    IfOk-weaker _ _ _ (λ l is. block_passed (manner_by c.args.m.now) c.args.s.now.form c.in-Block.items c.as_slice.result.now c.args.env.values (left_of l) c.in-Block.is c.as_slice.ensures is) c.pass_block.ensures

pub pass_under-returns-in_ok-enter_loop-in-Loop : goal.pass_under-returns-in_ok-enter_loop-in-Loop
pass_under-returns-in_ok-enter_loop-in-Loop t c =
    under_passed (manner_by c.args.m.now) (loop_of c.args.claim.now) c.args.s.now.at c.args.s.now.form c.in-Loop.field-0 c.in-Loop.first c.in-Loop.field-2 c.in-Loop.field-3 c.in-Loop.field-4 c.as_slice.result.now c.as_slice-in-Loop.result.now
    c.args.env.values (left_of c.in_ok-opened-in-Loop.opened) (left_of c.enter_loop.new.total) (left_of c.end_block.new.self) c.in-Loop.is c.as_slice.ensures (c.as_slice-in-Loop.ensures ∙ sym c.as_slice.ensures)
    c.in_ok-opened-in-Loop.ensures c.in_ok-enter_loop-in-Loop.ensures c.end_block.ensures

pub pass_statements-loop-s-preserved : goal.pass_statements-loop-s-preserved
pass_statements-loop-s-preserved t c =
    statements_next (manner_by c.args.m.now) _ (left_of c.loop-s.total) (left_of c.go_on_with.new.total) c.args.items.now c.loop-s.s-index c.s-item.result c.loop-s-test.true c.s-item.is c.in_ok-go_on_with.ensures c.loop-s.invariant

pub pass_statements-returns : goal.pass_statements-returns
pass_statements-returns t c = statements_end (manner_by c.args.m.now) _ (left_of c.loop-s.total) c.args.items.now c.loop-s.s-index c.loop-s-test.false c.loop-s.invariant
