use Rattle.std.proofs.Common.{◌≡◌, ◌∙◌, true, false, ap, sym, rules, option_map}
use Rattle.p10_core.specs.declared.statements.Stmt.{Stmt}
use Rattle.p10_core.specs.declared.statements.StmtForm.TheViews.{the_lemmas}
use Rattle.p10_core.specs.Typed.{block, switch, loop}
use Rattle.p10_core.specs.WholePrograms.{is_declaration}
use Rattle.p10_core.specs.Views.{plain_statement, plain_statements, plain_statement_form, plain_value, plain_labels}
use Rattle.p10_core.proofs.StatementRows.{plain_block, statements_row-items}
use Rattle.p10_whole.proofs.Passing.{next_passes, end_passes, form_ok, part_ok, by_block, if_is, switch_ok, any_span, by_loop}
use Rattle.p10_whole.proofs.statements.+statements.Goals as goal

pub are_whole_statements-loop-s-preserved : goal.are_whole_statements-loop-s-preserved
are_whole_statements-loop-s-preserved t c =
    let passed : c.in_ok-whole.whole ≡ true = search rules in
    next_passes c.args.context.now c.args.scope.now.items c.loop-s.scope.items (plain_statements c.args.all.now) c.args.all.now c.loop-s.s-index c.s-item.result c.is_whole_statement.new.scope.items c.loop-s-test.true c.s-item.is (c.in_ok-whole.ensures.shows passed) c.loop-s.invariant

pub are_whole_statements-returns : goal.are_whole_statements-returns
are_whole_statements-returns t c = record { shows = λ _. c.loop-s.invariant _ (end_passes c.args.context.now c.loop-s.scope.items c.args.all.now c.loop-s.s-index c.loop-s-test.false) }

pub is_whole_part-returns : goal.is_whole_part-returns
is_whole_part-returns t c =
    let undeclared : is_declaration (plain_statement c.args.s.now) ≡ false = search rules in
    part_ok _ _ _ _ _ undeclared c.is_whole_statement.ensures

pub is_whole_block-returns : goal.is_whole_block-returns
is_whole_block-returns t c = by_block c.args.context.now c.args.scope.now.items (plain_statements c.args.all.now) _ _ _ _ (c.len-count.ensures ∙ c.args.scope.now.ok.0) c.truncate.ensures.items c.in_ok-whole.ensures

pub is_whole_statement-returns-in-Declare : goal.is_whole_statement-returns-in-Declare
is_whole_statement-returns-in-Declare t c = form_ok _ _ _ _ _ _ _ (ap plain_statement_form c.in-Declare.is) c.declares.ensures

pub is_whole_statement-returns-in-Block : goal.is_whole_statement-returns-in-Block
is_whole_statement-returns-in-Block t c = form_ok _ _ _ _ _ _ _ (ap plain_statement_form c.in-Block.is ∙ plain_block _ ∙ ap (λ xs. block (plain_statements xs)) (sym c.as_slice.ensures)) c.is_whole_block.ensures

pub is_whole_statement-returns-in-Switch : goal.is_whole_statement-returns-in-Switch
is_whole_statement-returns-in-Switch t c =
    form_ok _ _ _ _ _ _ _
    (ap plain_statement_form c.in-Switch.is ∙ ap (λ (b : Stmt). switch c.in-Switch.field-0 (plain_value c.in-Switch.value) (plain_labels c.in-Switch.labels) (plain_statement b)) (sym c.deref.ensures))
    (any_span _ _ c.in-Switch.field-0 _ _ _ _ _ c.is_whole_switch.ensures)

pub is_whole_switch-returns : goal.is_whole_switch-returns
is_whole_switch-returns t c =
    let selected : c.in_ok-selected.selected ≡ true = search rules in
    switch_ok _ _ _ _ _ _ _ _ _ c.as_slice.ensures.value (c.in_ok-selected.ensures.shows selected) c.in_switch.ensures c.is_whole_part.ensures

pub is_whole_if-returns-in_ok-second-in-If : goal.is_whole_if-returns-in_ok-second-in-If
is_whole_if-returns-in_ok-second-in-If t c =
    if_is c.args.context.now c.args.scope.now.items c.as_slice.result.now c.args.s.now.at c.args.s.now.form c.in-If.test c.in-If.then c.in-If.other c.deref.result.now c.is_whole_part.new.scope.items c.is_whole_other.new.scope.items _ _ _ c.in-If.is c.deref.ensures c.as_slice.ensures.value c.tests-tested.ensures c.in_ok-first-in-If.ensures c.in_ok-second-in-If.ensures

pub is_whole_loop-returns-in_ok-whole-in-Loop : goal.is_whole_loop-returns-in_ok-whole-in-Loop
is_whole_loop-returns-in_ok-whole-in-Loop t c =
    let clauses : c.are_clauses.result ≡ true = search rules in
    let form : plain_statement_form c.args.s.now.form ≡ loop c.in-Loop.head (plain_statements c.in-Loop.first) (option_map plain_value c.in-Loop.test) (plain_statements c.in-Loop.third) (plain_statement c.in-Loop.body.value) =
    rw c.in-Loop.is (search (rules, the_lemmas, statements_row-items)) in
    by_loop c.args.context.now c.in_loop.result c.args.scope.now.items c.args.s.now.at (plain_statement_form c.args.s.now.form) c.in-Loop.head (plain_statements c.as_slice-first.result.now) (option_map plain_value c.in-Loop.test) (plain_statements c.as_slice-third.result.now) (plain_statement c.deref.result.now) c.are_whole_statements.new.scope.items c.is_whole_block.new.scope.items c.is_whole_part.new.scope.items c.truncate.new.self.items c.as_slice.result.now c.len-outer.result _ _ _ _
    (form ∙ (λ i. loop c.in-Loop.head (plain_statements (sym c.as_slice-first.ensures i)) (option_map plain_value c.in-Loop.test) (plain_statements (sym c.as_slice-third.ensures i)) (plain_statement (sym c.deref.ensures i))))
    (c.are_clauses.ensures.shows clauses) c.in_ok-opened-in-Loop.ensures c.as_slice.ensures.value c.maybe_tests-tested.ensures c.in_ok-stepped-in-Loop.ensures (c.len-outer.ensures ∙ c.args.scope.now.ok.0) c.in_loop.ensures c.in_ok-whole-in-Loop.ensures c.truncate.ensures.items
