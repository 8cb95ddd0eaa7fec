use Rattle.std.proofs.Common.{◌∙◌, ap}
use Rattle.std.proofs.lemmas.Result.{IfOk-weaker}
use Rattle.p10_core.specs.Views.{plain_labels}
use Rattle.p10_pass.specs.Marks.{is_marked}
use Rattle.p10_clean.specs.private.Code.{settings_of, ways_by}
use Rattle.p10_clean.proofs.Setting.{all_next, all_end, cases_next, block_ways, switch_ways, loop_ways_of}
use Rattle.p10_clean.proofs.ways.+setting.Goals as goal

pub ways_of-returns-in-Block : goal.ways_of-returns-in-Block
ways_of-returns-in-Block t c =
    IfOk-weaker _ _ _ (λ w is. block_ways c.args.s.now.form c.in-Block.items c.as_slice.result.now (settings_of c.args.before) (ways_by w) c.in-Block.is c.as_slice.ensures is) c.ways_of_all.ensures

pub ways_of_all-loop-s-preserved : goal.ways_of_all-loop-s-preserved
ways_of_all-loop-s-preserved t c =
    all_next _ (ways_by c.loop-s.total) (ways_by c.go_on.new.total) c.args.items.now c.loop-s.s-index c.s-item.result c.loop-s-test.true c.s-item.is c.in_ok-go_on.ensures c.loop-s.invariant

pub ways_of_all-returns : goal.ways_of_all-returns
ways_of_all-returns t c = all_end _ (ways_by c.loop-s.total) c.args.items.now c.loop-s.s-index c.loop-s-test.false c.loop-s.invariant

pub ways_of_cases-loop-k-preserved : goal.ways_of_cases-loop-k-preserved
ways_of_cases-loop-k-preserved t c =
    cases_next (plain_labels c.args.labels.now) (settings_of c.args.entry.now) _ (ways_by c.loop-k.total) (ways_by c.go_on_with_case.new.total) c.args.items.now c.loop-k.k c.index-items-k.result c.is_marked.result
    c.loop-k-test.true c.index-items-k.is (c.is_marked.ensures ∙ (ap (λ bs. is_marked bs c.loop-k.k) c.as_slice.ensures.value ∙ c.in_ok-marks.ensures.each c.loop-k.k c.loop-k-test.true)) c.in_ok-go_on_with_case.ensures c.loop-k.invariant

pub ways_of_loop-returns-in_ok-ways-in-Loop : goal.ways_of_loop-returns-in_ok-ways-in-Loop
ways_of_loop-returns-in_ok-ways-in-Loop t c =
    IfOk-weaker _ _ _ (λ w is. loop_ways_of c.args.s.now.at c.args.s.now.form c.in-Loop.head c.in-Loop.first c.in-Loop.field-2 c.in-Loop.field-3 c.in-Loop.body c.as_slice.result.now c.deref.result.now
    (settings_of c.args.before) (settings_of c.take_normal-entry.result) (settings_of c.in_ok-again-in-Loop.again) (ways_by c.in_ok-opened-in-Loop.opened) (ways_by c.in_ok-ways-in-Loop.ways) (ways_by w)
    c.in-Loop.is c.as_slice.ensures c.deref.ensures c.in_ok-opened-in-Loop.ensures c.take_normal-entry.ensures.taken c.in_ok-again-in-Loop.ensures c.in_ok-ways-in-Loop.ensures is) c.after_loop.ensures

pub ways_of_switch-returns-in_ok-ways-in-Block : goal.ways_of_switch-returns-in_ok-ways-in-Block
ways_of_switch-returns-in_ok-ways-in-Block t c =
    IfOk-weaker _ _ _ (λ w is. switch_ways (plain_labels c.args.labels.now) c.args.body.now.at c.args.body.now.form c.in-Block.items c.as_slice.result.now (settings_of c.args.entry)
    (ways_by c.in_ok-ways-in-Block.ways) (ways_by w) c.in-Block.is c.as_slice.ensures c.in_ok-ways-in-Block.ensures is) c.after_switch.ensures
