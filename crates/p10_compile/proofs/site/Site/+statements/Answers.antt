-- Statements along their forms.
use Rattle.std.proofs.Common.{◌≡◌, ◌+◌, length, map, option_map, sym, ◌∙◌, ap, rules}
use Rattle.p10_core.specs.declared.statements.StmtForm.TheViews.{the_lemmas}
use Rattle.p10_core.specs.Typed.{copy, asserts, block}
use Rattle.p10_core.specs.Views.{plain_value, plain_place, plain_labels, plain_statement_form, plain_statement, plain_statements}
use Rattle.p10_core.proofs.StatementRows.{statements_row-items}
use Rattle.p10_code.specs.StatementCode.{inner_place, statement_code, loop_exits}
use Rattle.p10_compile.specs.declared.statement_parts.Looping.{Looping}
use Rattle.p10_compile.specs.Blocks.{turned_code}
use Rattle.p10_compile.specs.Views.{plain_op, plain_site, plain_exits}
use Rattle.p10_compile.proofs.Compiled.{statements_next, places_next}
use Rattle.p10_compile.proofs.Forms.{block_form, loop_form, coded_along, coded_anywhere, switch_coded, loop_coded}
use Rattle.p10_compile.proofs.site.Site.+statements.Goals as goal

pub statement_code-returns-in-Assert : goal.statement_code-returns-in-Assert
statement_code-returns-in-Assert t c =
    coded_anywhere (plain_site c.args.self.now) (plain_exits c.args.exits) c.args.at c.args.s.now.at (plain_statement_form c.args.s.now.form) (asserts c.in-Assert.call (plain_value c.in-Assert.v)) c.assert_code.result (λ code. map plain_op code.items)
    (ap plain_statement_form c.in-Assert.is) c.assert_code.ensures

pub statement_code-returns-in-Copy : goal.statement_code-returns-in-Copy
statement_code-returns-in-Copy t c =
    coded_anywhere (plain_site c.args.self.now) (plain_exits c.args.exits) c.args.at c.args.s.now.at (plain_statement_form c.args.s.now.form) (copy (plain_place c.in-Copy.target) (plain_place c.in-Copy.source)) c.copy_code.result (λ code. map plain_op code.items)
    (ap plain_statement_form c.in-Copy.is) c.copy_code.ensures

pub statement_code-returns-in-Block : goal.statement_code-returns-in-Block
statement_code-returns-in-Block t c =
    coded_along (plain_site c.args.self.now) (plain_exits c.args.exits) c.args.at c.args.s.now.at (plain_statement_form c.args.s.now.form) (block (plain_statements c.as_slice.result.now)) c.block_code.result (λ code. map plain_op code.items)
    (block_form c.args.s.now.form c.in-Block.items c.as_slice.result.now c.in-Block.is c.as_slice.ensures) c.block_code.ensures

pub statement_code-returns-in_ok-rest-in-Loop : goal.statement_code-returns-in_ok-rest-in-Loop
statement_code-returns-in_ok-rest-in-Loop t c =
    let body : c.deref-in-Loop-2.result.now ≡ c.deref-in-Loop.result.now = c.deref-in-Loop-2.ensures ∙ sym c.deref-in-Loop.ensures in
    loop_coded (plain_site c.args.self.now) (plain_exits c.args.exits) (plain_exits c.in_ok-inner-in-Loop.inner) c.args.at c.in_ok-begins-in-Loop.begins c.in_ok-jumps-in-Loop.jumps c.in_ok-third_at-in-Loop.third_at c.args.s.now.at (plain_statement_form c.args.s.now.form)
    c.in-Loop.head (plain_statements c.as_slice-first.result.now) (plain_statements c.as_slice-third.result.now) (option_map plain_value c.in-Loop.test) (plain_statement c.deref-in-Loop.result.now) c.loop_opens-tracked.result
    (map plain_op c.in_ok-before-in-Loop.before.items) (map plain_op c.in_ok-turn-in-Loop.turn.items) (map plain_op c.in_ok-after-in-Loop.after.items) (map plain_op c.in_ok-rest-in-Loop.rest.items) c.looped_code.result (λ code. map plain_op code.items)
    (loop_form c.args.s.now.form c.in-Loop.head c.in-Loop.first c.in-Loop.test c.in-Loop.third c.in-Loop.body c.as_slice-first.result.now c.as_slice-third.result.now c.deref-in-Loop.result.now c.in-Loop.is c.as_slice-first.ensures c.as_slice-third.ensures c.deref-in-Loop.ensures)
    c.loop_opens-tracked.ensures c.in_ok-inner-in-Loop.ensures (c.in_ok-begins-in-Loop.ensures ∙ ap (λ n. inner_place c.loop_opens-tracked.result n) c.in_ok-place_after-in-Loop.ensures) c.in_ok-before-in-Loop.ensures
    (c.in_ok-jumps-in-Loop.ensures ∙ ap (λ xs. c.in_ok-begins-in-Loop.begins + length (map plain_op xs)) c.as_slice-in-Loop.ensures.value)
    (c.in_ok-turn-in-Loop.ensures ∙ ap (λ x. statement_code (plain_site c.args.self.now) (loop_exits (plain_exits c.in_ok-inner-in-Loop.inner) c.in_ok-jumps-in-Loop.jumps) (c.in_ok-jumps-in-Loop.jumps + 4) (plain_statement x)) body)
    (c.in_ok-third_at-in-Loop.ensures ∙ (λ i. c.in_ok-place_after-in-Loop-2.ensures i + length (map plain_op (c.as_slice-in-Loop-2.ensures.value i)))) c.in_ok-after-in-Loop.ensures
    (c.in_ok-rest-in-Loop.ensures ∙ ap (λ (w : Looping). turned_code (plain_site c.args.self.now) w.span w.keyword (option_map plain_value c.in-Loop.test) w.jumps w.third (map plain_op c.in_ok-turn-in-Loop.turn.items) (map plain_op c.in_ok-after-in-Loop.after.items)) c.new-looping.ensures)
    c.looped_code.ensures

pub switched_code-returns : goal.switched_code-returns
switched_code-returns t c =
    switch_coded (plain_site c.args.self.now) (plain_exits c.args.around.exits) c.args.around.at c.args.around.here (plain_value c.args.value.now) (plain_labels c.args.labels.now) (plain_statement c.args.body.now) (map plain_op c.in_ok-code.code.items) c.switch_rest.result (λ code. map plain_op code.items)
    c.in_ok-code.ensures c.switch_rest.ensures

pub switch_rest-returns-in_ok-rest-in-Block : goal.switch_rest-returns-in_ok-rest-in-Block
switch_rest-returns-in_ok-rest-in-Block t c = search (rules, the_lemmas, statements_row-items)

pub placed_code-loop-s-preserved : goal.placed_code-loop-s-preserved
placed_code-loop-s-preserved t c =
    let next : c.in_ok-next.next ≡ c.args.at + length (map plain_op c.loop-s.code.items) = c.in_ok-next.ensures ∙ ap (λ xs. c.args.at + length (map plain_op xs)) c.as_slice.ensures.value in
    record {
      code = statements_next (plain_site c.args.self.now) (plain_exits c.args.exits) c.args.statements.now c.loop-s.s-index c.args.at c.in_ok-next.next c.s-item.result _ _ _ _ c.loop-s-test.true c.s-item.is next c.in_ok-more.ensures c.in_ok-code.ensures c.loop-s.invariant.code;
      places = places_next (plain_site c.args.self.now) (plain_exits c.args.exits) c.args.statements.now c.loop-s.s-index c.args.at c.in_ok-next.next c.s-item.result _ _ _ _ _ _ c.loop-s-test.true c.s-item.is next c.in_ok-more.ensures c.in_ok-code.ensures c.in_ok-push.ensures.items c.loop-s.invariant.places;
    }
