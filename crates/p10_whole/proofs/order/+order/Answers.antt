use Rattle.std.proofs.Common.{◌≡◌, ◌∙◌, true, sym, rules, option_map}
use Rattle.p10_core.specs.declared.statements.StmtForm.TheViews.{the_lemmas}
use Rattle.p10_core.specs.Typed.{loop}
use Rattle.p10_core.specs.Views.{plain_statement, plain_statements, plain_statement_form, plain_value}
use Rattle.p10_core.proofs.StatementRows.{statements_row-items}
use Rattle.p10_whole.proofs.Ordering.{next_in_order, order_end, block_in_order, if_in_order, loop_in_order}
use Rattle.p10_whole.proofs.order.+order.Goals as goal

pub pass_statements-loop-s-preserved : goal.pass_statements-loop-s-preserved
pass_statements-loop-s-preserved t c =
    let passed : c.pass_statement.result ≡ true = search rules in
    next_in_order c.loop-s.next c.args.next.now _ _ _ c.args.all.now c.loop-s.s-index c.s-item.result c.pass_statement.new.next c.loop-s-test.true c.s-item.is (c.pass_statement.ensures.shows passed) c.loop-s.invariant

pub pass_statements-returns : goal.pass_statements-returns
pass_statements-returns t c = record { shows = λ _. c.loop-s.invariant _ (order_end c.loop-s.next c.args.all.now c.loop-s.s-index c.loop-s-test.false) }

pub pass_statement-returns-in-Block : goal.pass_statement-returns-in-Block
pass_statement-returns-in-Block t c = block_in_order c.args.next.now c.args.s.now.at c.args.s.now.form c.in-Block.all c.as_slice.result.now c.pass_statements.result c.pass_statements.new.next c.in-Block.is c.as_slice.ensures c.pass_statements.ensures

pub pass_statement-returns-else-not-pass_opening : goal.pass_statement-returns-else-not-pass_opening
pass_statement-returns-else-not-pass_opening t c =
    let passed : c.pass_opening.result ≡ true = search rules in
    let form : plain_statement_form c.args.s.now.form ≡ loop c.in-Loop.head (plain_statements c.in-Loop.first) (option_map plain_value c.in-Loop.field-2) (plain_statements c.in-Loop.field-3) (plain_statement c.in-Loop.body.value) =
    rw c.in-Loop.is (search (rules, the_lemmas, statements_row-items)) in
    loop_in_order c.args.next.now c.args.s.now.at (plain_statement_form c.args.s.now.form) c.in-Loop.head (plain_statements c.as_slice-in-Loop.result.now) (option_map plain_value c.in-Loop.field-2) (plain_statements c.in-Loop.field-3) (plain_statement c.deref-in-Loop.result.now) c.pass_opening.new.next c.pass_statement-in-Loop.new.next c.pass_statement-in-Loop.result
    (form ∙ (λ i. loop c.in-Loop.head (plain_statements (sym c.as_slice-in-Loop.ensures i)) (option_map plain_value c.in-Loop.field-2) (plain_statements c.in-Loop.field-3) (plain_statement (sym c.deref-in-Loop.ensures i))))
    (c.pass_opening.ensures.shows passed) c.pass_statement-in-Loop.ensures

pub pass_statement-returns-else-not-pass_statement : goal.pass_statement-returns-else-not-pass_statement
pass_statement-returns-else-not-pass_statement t c =
    let passed : c.pass_statement.result ≡ true = search rules in
    if_in_order c.args.next.now c.args.s.now.at c.args.s.now.form c.in-If.field-0 c.in-If.then c.in-If.other c.deref.result.now c.pass_statement.new.next c.pass_other.new.next c.pass_other.result c.in-If.is c.deref.ensures (c.pass_statement.ensures.shows passed) c.pass_other.ensures
