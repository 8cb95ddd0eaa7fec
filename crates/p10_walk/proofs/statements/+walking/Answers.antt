use Rattle.std.proofs.Common.{◌∙◌, ap, sym}
use Rattle.std.proofs.lemmas.Result.{IfOk-weaker}
use Rattle.p10_core.specs.Views.{plain_labels}
use Rattle.p10_pass.specs.Marks.{is_marked}
use Rattle.std.specs.Option.{option_map}
use Rattle.p10_walk.specs.Leaving.{ends_of}
use Rattle.p10_walk.proofs.Lists.{statements_next, statements_end, cases_next}
use Rattle.p10_walk.proofs.Arms.{block_row, if_row, body_row}
use Rattle.p10_walk.proofs.statements.+walking.Goals as goal

pub walk-returns-in-Block : goal.walk-returns-in-Block
walk-returns-in-Block g t c =
    IfOk-weaker _ _ _ (λ a is. block_row (g.R.Rules.operations c.args.rules.now) c.args.s.now.form c.in-Block.items c.as_slice.result.now (g.R.Rules.known c.args.e) (ends_of g.R.Rules.known a) c.in-Block.is c.as_slice.ensures is) c.walk_block.ensures

pub walk_if-returns-in_ok-join-in-If : goal.walk_if-returns-in_ok-join-in-If
walk_if-returns-in_ok-join-in-If g t c =
    if_row (g.R.Rules.operations c.args.rules.now) c.args.s.now.at c.args.s.now.form c.in-If.v c.in-If.then c.in-If.otherwise
    c.deref.result.now (g.R.Rules.known c.args.e) (g.R.Rules.known c.in_ok-other-in-If.other)
    (option_map g.R.Rules.known c.in_ok-truth-in-If.truth) (option_map g.R.Rules.known c.in_ok-contrary-in-If.contrary)
    (ends_of g.R.Rules.known c.in_ok-ends-in-If.ends) (ends_of g.R.Rules.known c.in_ok-more-in-If.more) (ends_of g.R.Rules.known c.join.new.ends)
    c.in-If.is c.deref.ensures c.in_ok-other-in-If.ensures
    c.in_ok-truth-in-If.ensures c.in_ok-contrary-in-If.ensures c.in_ok-ends-in-If.ensures c.in_ok-more-in-If.ensures c.in_ok-join-in-If.ensures

pub walk_body-returns-in_ok-end_switch-in-Block : goal.walk_body-returns-in_ok-end_switch-in-Block
walk_body-returns-in_ok-end_switch-in-Block g t c =
    body_row (g.R.Rules.operations c.args.rules.now) (plain_labels c.args.labels.now) c.args.body.now.at c.args.body.now.form c.in-Block.items c.as_slice.result.now c.as_slice-in-Block.result.now (g.R.Rules.known c.args.e)
    (ends_of g.R.Rules.known c.in_ok-ends-in-Block.ends) (ends_of g.R.Rules.known c.end_block.new.ends) (ends_of g.R.Rules.known c.end_switch.new.ends) c.in-Block.is c.as_slice.ensures (c.as_slice-in-Block.ensures ∙ sym c.as_slice.ensures)
    c.in_ok-ends-in-Block.ensures c.end_block.ensures c.in_ok-end_switch-in-Block.ensures

pub walk_all-loop-s-preserved : goal.walk_all-loop-s-preserved
walk_all-loop-s-preserved g t c =
    statements_next (g.R.Rules.operations c.args.rules.now) _ (ends_of g.R.Rules.known c.loop-s.total) (ends_of g.R.Rules.known c.go_on_with.new.total) c.args.items.now c.loop-s.s-index c.s-item.result c.loop-s-test.true c.s-item.is c.in_ok-go_on_with.ensures c.loop-s.invariant

pub walk_all-returns : goal.walk_all-returns
walk_all-returns g t c = statements_end (g.R.Rules.operations c.args.rules.now) _ (ends_of g.R.Rules.known c.loop-s.total) c.args.items.now c.loop-s.s-index c.loop-s-test.false c.loop-s.invariant

pub walk_cases-loop-k-preserved : goal.walk_cases-loop-k-preserved
walk_cases-loop-k-preserved g t c =
    cases_next (g.R.Rules.operations c.args.rules.now) (plain_labels c.args.labels.now) (g.R.Rules.known c.args.e.now) _ (ends_of g.R.Rules.known c.loop-k.total) (ends_of g.R.Rules.known c.walk_case.new.total) c.args.items.now c.loop-k.k c.index-items-k.result c.is_marked.result
    c.loop-k-test.true c.index-items-k.is (c.is_marked.ensures ∙ (ap (λ bs. is_marked bs c.loop-k.k) c.as_slice.ensures.value ∙ c.in_ok-marks.ensures.each c.loop-k.k c.loop-k-test.true)) c.in_ok-walk_case.ensures c.loop-k.invariant
