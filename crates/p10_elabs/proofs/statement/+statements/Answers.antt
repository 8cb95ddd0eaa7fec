use Rattle.std.proofs.Common.{◌∙◌, ap, sym, option_map, map}
use Rattle.p10_syn.specs.Trees.{statement_row}
use Rattle.p10_syn.specs.Built.{expression_of}
use Rattle.p10_syn.specs.BuiltStatements.{optional_expression, statement_of}
use Rattle.p10_core.specs.Views.{plain_value}
use Rattle.p10_elabx.specs.First.{only_first}
use Rattle.p10_heads.proofs.ListRows.{cut_list}
use Rattle.p10_elabs.specs.FrameViews.{plain_frame}
use Rattle.p10_elabs.specs.ItemViews.{plain_block}
use Rattle.p10_elabs.specs.LocalViews.{plain_local}
use Rattle.p10_elabs.specs.Statements.{done}
use Rattle.p10_elabs.specs.private.StepViews.{plain_switched}
use Rattle.p10_elabs.specs.private.Steps.{item_done, body_done, settled_body}
use Rattle.p10_elabs.proofs.StatementArms.{at_tree, at_block, at_if_else, at_while, at_for, at_if, at_switch, at_do}
use Rattle.p10_elabs.proofs.StatementParts.{part_made, if_made, if_else_made, while_made, while_kind, do_made, for_made, expression_made}
use Rattle.p10_elabs.proofs.StatementParts as parts
use Rattle.p10_elabs.proofs.ItemSteps.{step_items, kept_made, while_item, mark_item, for_item, step_switched, switched_made}
use Rattle.p10_elabs.proofs.SwitchParts.{plain_made, switch_found}
use Rattle.p10_elabs.proofs.SwitchParts as switches
use Rattle.p10_elabs.proofs.statement.+statements.Goals as goal

pub part-returns : goal.part-returns
part-returns t c =
    part_made (plain_frame c.args.frame.now) c.args.round (plain_local c.args.local.now) _ _ _ (statement_of c.args.s.now) _ c.in_ok-open.ensures c.in_ok-made.ensures c.close.ensures

pub block-returns : goal.block-returns
block-returns t c =
    parts.block_made (plain_frame c.args.frame.now) c.args.round _ (plain_local c.args.local.now) _ _ c.args.at (statement_row (map statement_of c.args.all.now)) _ _ _ c.inside.ensures c.in_ok-open.ensures (c.no_items.ensures _) c.in_ok-items.ensures c.close.ensures c.block_of.ensures

pub if_done-returns : goal.if_done-returns
if_done-returns t c =
    if_made (plain_frame c.args.frame.now) c.args.round _ (plain_local c.args.local.now) _ _ _ _ c.args.at (expression_of c.args.e.now) (statement_of c.args.body.now) _ _ _ c.inside.ensures c.in_ok-open.ensures c.in_ok-test.ensures c.in_ok-body.ensures c.close.ensures c.in_ok-made.ensures

pub while_done-returns-clause-kind : goal.while_done-returns-clause-kind
while_done-returns-clause-kind t c =
    while_kind (plain_local c.args.local.now) _ _ _ c.args.places.0 c.args.places.1 (expression_of c.args.e.now) (statement_of c.args.body.now) _ _ c.in_ok-head.ensures.after c.in_ok-open.ensures c.in_ok-test.ensures c.test_kind-kind.ensures

pub while_done-returns-clause-made : goal.while_done-returns-clause-made
while_done-returns-clause-made t c =
    while_made (plain_frame c.args.frame.now) c.args.round _ (plain_local c.args.local.now) _ _ _ _ _ c.args.places.0 c.args.places.1 (expression_of c.args.e.now) (statement_of c.args.body.now) _ _ _ _ c.inside_loop.ensures c.in_ok-head.ensures.head c.in_ok-head.ensures.after c.in_ok-open.ensures c.in_ok-test.ensures c.in_ok-body.ensures c.close.ensures c.in_ok-made.ensures

pub do_done-returns : goal.do_done-returns
do_done-returns t c =
    do_made (plain_frame c.args.frame.now) c.args.round _ (plain_local c.args.local.now) _ _ _ _ _ c.args.places.0 c.args.places.1 (expression_of c.args.e.now) (statement_of c.args.body.now) _ _ _ _ c.inside_loop.ensures c.in_ok-head.ensures.head c.in_ok-head.ensures.after c.in_ok-open.ensures c.in_ok-body.ensures c.in_ok-test.ensures c.close.ensures c.in_ok-made.ensures

pub whole_switch-returns : goal.whole_switch-returns
whole_switch-returns t c =
    switch_found (plain_frame c.args.frame.now) c.args.round (plain_local c.args.local.now) _ _ _ _ c.args.places.0 c.args.places.1 (expression_of c.args.e.now) (statement_of c.args.body.now) _ _ _ _ _ c.in_ok-open.ensures c.in_ok-value.ensures c.in_ok-labels.ensures c.close.ensures c.in_ok-made.ensures

pub plain_body-returns : goal.plain_body-returns
plain_body-returns t c =
    plain_made (plain_frame c.args.frame.now) c.args.round _ (plain_local c.args.local.now) _ (statement_of c.args.s.now) _ _ c.inside_switch.ensures c.in_ok-made.ensures (c.no_labels.ensures _)

pub switch_block-returns : goal.switch_block-returns
switch_block-returns t c =
    switches.block_made (plain_frame c.args.frame.now) c.args.round _ (plain_local c.args.local.now) _ _ (option_map plain_value c.args.value.now) c.args.place (statement_row (map statement_of c.args.all.now)) _ _ _ c.among_labels.ensures c.in_ok-open.ensures (c.nothing_switched-start.ensures _) c.in_ok-body.ensures c.close.ensures c.block_of.ensures

pub switched_done-loop-s-preserved : goal.switched_done-loop-s-preserved
switched_done-loop-s-preserved t c =
    let cut = cut_list c.args.all.now c.loop-s.s-index c.s-item.result c.loop-s-test.true c.s-item.is in
    sym (step_switched (plain_frame c.args.frame.now) c.args.round (option_map plain_value c.args.value.now) c.loop-s.s-index c.args.all.now c.s-item.result (plain_switched c.loop-s.body (plain_local c.loop-s.local)) _ cut c.in_ok-body.ensures) ∙ c.loop-s.invariant

pub switched_item-returns : goal.switched_item-returns
switched_item-returns t c =
    switched_made (plain_frame c.args.frame.now) c.args.round (option_map plain_value c.args.value.now) (plain_switched c.args.before (plain_local c.args.local.now)) _ _ _ _ _ (statement_of c.args.s.now) c.in_ok-place.ensures c.in_ok-labels.ensures c.in_ok-made.ensures (c.in_ok-items.ensures (plain_local c.args.local.now) _)

pub items_done-loop-s-preserved : goal.items_done-loop-s-preserved
items_done-loop-s-preserved t c =
    let cut = cut_list c.args.all.now c.loop-s.s-index c.s-item.result c.loop-s-test.true c.s-item.is in
    sym (step_items (plain_frame c.args.frame.now) c.args.in_main c.args.round c.loop-s.s-index c.args.all.now c.s-item.result (plain_block c.loop-s.items (plain_local c.loop-s.local)) _ cut c.in_ok-items.ensures) ∙ c.loop-s.invariant

pub kept_item-returns : goal.kept_item-returns
kept_item-returns t c =
    kept_made (plain_frame c.args.frame.now) c.args.round (plain_block c.args.items (plain_local c.args.local.now)) _ _ c.args.kind (statement_of c.args.s.now) _ c.in_ok-made.ensures (c.in_ok-all.ensures (plain_local c.args.local.now) _)

pub statement-returns-in_ok-made-in-Block : goal.statement-returns-in_ok-made-in-Block
statement-returns-in_ok-made-in-Block t c =
    at_block (done only_first (plain_frame c.args.frame.now) c.args.round (plain_local c.args.local.now)) _ c.args.s.now c.in-Block.at c.in-Block.all c.deref.result.now c.in-Block.is c.deref.ensures.value c.in_ok-made-in-Block.ensures

pub statement-returns-in_ok-made-in-IfElse : goal.statement-returns-in_ok-made-in-IfElse
statement-returns-in_ok-made-in-IfElse t c =
    at_if_else (done only_first (plain_frame c.args.frame.now) c.args.round (plain_local c.args.local.now)) _ c.args.s.now c.in-IfElse.at c.in-IfElse.e c.in-IfElse.first c.in-IfElse.second c.deref-in-IfElse.result.now c.deref-in-IfElse-2.result.now c.in-IfElse.is c.deref-in-IfElse.ensures c.deref-in-IfElse-2.ensures
    (if_else_made (plain_frame c.args.frame.now) c.args.round _ (plain_local c.args.local.now) _ _ _ _ _ c.in-IfElse.at (expression_of c.in-IfElse.e) (statement_of c.deref-in-IfElse.result.now) (statement_of c.deref-in-IfElse-2.result.now) _ _ _ _ c.inside-inner.ensures c.in_ok-open-in-IfElse.ensures c.in_ok-test-in-IfElse.ensures c.in_ok-first-in-IfElse.ensures c.in_ok-second-in-IfElse.ensures c.close.ensures c.in_ok-made-in-IfElse.ensures)

pub statement-returns-in_ok-made-in-For : goal.statement-returns-in_ok-made-in-For
statement-returns-in_ok-made-in-For t c =
    at_for (done only_first (plain_frame c.args.frame.now) c.args.round (plain_local c.args.local.now)) _ c.args.s.now c.in-For.at c.in-For.keyword c.in-For.start c.in-For.test c.in-For.step c.in-For.body c.deref-in-For.result.now c.deref-in-For-2.result.now c.in-For.is c.deref-in-For.ensures c.deref-in-For-2.ensures
    (for_made (plain_frame c.args.frame.now) c.args.round _ (plain_local c.args.local.now) _ _ _ _ c.in-For.at c.in-For.keyword (statement_of c.deref-in-For.result.now) (statement_of c.deref-in-For-2.result.now) (optional_expression c.in-For.test) (optional_expression c.in-For.step) _ _ _ _ c.inside_loop-inner.ensures c.in_ok-head-in-For.ensures.head c.in_ok-head-in-For.ensures.after c.in_ok-open-in-For.ensures c.in_ok-clauses-in-For.ensures c.in_ok-body-in-For.ensures c.close-in-For.ensures c.in_ok-made-in-For.ensures)

pub switch_body-returns-in_ok-made-in-Block : goal.switch_body-returns-in_ok-made-in-Block
switch_body-returns-in_ok-made-in-Block t c =
    at_block (λ s. settled_body (body_done only_first (plain_frame c.args.frame.now) c.args.round (plain_local c.args.local.now) (option_map plain_value c.args.value.now) s)) _ c.args.body.now c.in-Block.place c.in-Block.all c.deref.result.now c.in-Block.is c.deref.ensures.value c.in_ok-made-in-Block.ensures

pub item_done-returns-in_ok-all-in-While : goal.item_done-returns-in_ok-all-in-While
item_done-returns-in_ok-all-in-While t c =
    at_while (item_done only_first (plain_frame c.args.frame.now) c.args.in_main c.args.round (plain_block c.args.items (plain_local c.args.local.now))) _ c.args.s.now c.in-While.at c.in-While.keyword c.in-While.e c.in-While.body c.deref.result.now c.in-While.is c.deref.ensures
    (while_item (plain_frame c.args.frame.now) c.args.in_main c.args.round (plain_block c.args.items (plain_local c.args.local.now)) _ _ _ c.in-While.at c.in-While.keyword (expression_of c.in-While.e) (statement_of c.deref.result.now) _ c.in_ok-kind-in-While.ensures.kind c.in_ok-kind-in-While.ensures.made (c.in_ok-all-in-While.ensures (plain_local c.args.local.now) _))

pub item_done-returns-in_ok-all-in-For : goal.item_done-returns-in_ok-all-in-For
item_done-returns-in_ok-all-in-For t c =
    for_item (plain_frame c.args.frame.now) c.args.in_main c.args.round (plain_block c.args.items (plain_local c.args.local.now)) _ _ c.args.s.now c.in-For.field-0 c.in-For.field-1 c.in-For.start c.in-For.test c.in-For.step c.in-For.field-5 c.deref-in-For.result.now c.in-For.is c.deref-in-For.ensures c.for_kind-kind.ensures c.in_ok-all-in-For.ensures

pub statement-returns-in_ok-made-in-Expr : goal.statement-returns-in_ok-made-in-Expr
statement-returns-in_ok-made-in-Expr t c =
    at_tree (done only_first (plain_frame c.args.frame.now) c.args.round (plain_local c.args.local.now)) _ c.args.s.now _ c.in-Expr.is (expression_made (plain_frame c.args.frame.now) c.args.round (plain_local c.args.local.now) c.in-Expr.at (expression_of c.in-Expr.e) _ c.in_ok-made-in-Expr.ensures)

pub statement-returns-in_ok-made-in-If : goal.statement-returns-in_ok-made-in-If
statement-returns-in_ok-made-in-If t c =
    at_if (done only_first (plain_frame c.args.frame.now) c.args.round (plain_local c.args.local.now)) _ c.args.s.now c.in-If.at c.in-If.e c.in-If.body c.deref-in-If.result.now c.in-If.is c.deref-in-If.ensures c.in_ok-made-in-If.ensures

pub statement-returns-in_ok-made-in-While : goal.statement-returns-in_ok-made-in-While
statement-returns-in_ok-made-in-While t c =
    at_while (done only_first (plain_frame c.args.frame.now) c.args.round (plain_local c.args.local.now)) _ c.args.s.now c.in-While.at c.in-While.keyword c.in-While.e c.in-While.body c.deref-in-While.result.now c.in-While.is c.deref-in-While.ensures c.in_ok-made-in-While.ensures.made

pub statement-returns-in_ok-made-in-Do : goal.statement-returns-in_ok-made-in-Do
statement-returns-in_ok-made-in-Do t c =
    at_do (done only_first (plain_frame c.args.frame.now) c.args.round (plain_local c.args.local.now)) _ c.args.s.now c.in-Do.at c.in-Do.keyword c.in-Do.body c.in-Do.e c.deref-in-Do.result.now c.in-Do.is c.deref-in-Do.ensures c.in_ok-made-in-Do.ensures

pub statement-returns-in_ok-made-in-Switch : goal.statement-returns-in_ok-made-in-Switch
statement-returns-in_ok-made-in-Switch t c =
    at_switch (done only_first (plain_frame c.args.frame.now) c.args.round (plain_local c.args.local.now)) _ c.args.s.now c.in-Switch.at c.in-Switch.keyword c.in-Switch.e c.in-Switch.body c.deref-in-Switch.result.now c.in-Switch.is c.deref-in-Switch.ensures c.in_ok-made-in-Switch.ensures

pub item_done-returns-in_ok-all-in-Mark : goal.item_done-returns-in_ok-all-in-Mark
item_done-returns-in_ok-all-in-Mark t c =
    at_tree (item_done only_first (plain_frame c.args.frame.now) c.args.in_main c.args.round (plain_block c.args.items (plain_local c.args.local.now))) _ c.args.s.now _ c.in-Mark.is
    (mark_item (plain_frame c.args.frame.now) c.args.in_main c.args.round (plain_block c.args.items (plain_local c.args.local.now)) _ _ c.in-Mark.at c.in-Mark.text.now _ _ c.mark_of-mark.ensures c.pragma_done-made.ensures (c.in_ok-all-in-Mark.ensures (plain_local c.args.local.now) _))
