use Rattle.std.proofs.Common.{◌∙◌, ap}
use Rattle.p10_evidence.specs.private.Seeking.{sought}
use Rattle.p10_evidence.proofs.LoopSearch.{next_passed, next_found, all_passed, within_block, first_branch, second_branch}
use Rattle.p10_evidence.proofs.seeking.+seeking.Goals as goal

pub seek_among-loop-s-preserved : goal.seek_among-loop-s-preserved
seek_among-loop-s-preserved t c = next_passed c.args.all.now c.loop-s.s-index c.s-item.result c.loop-s.left c.in-Passed.further c.seek.result _ c.loop-s-test.true c.s-item.is c.in-Passed.is c.seek.ensures c.loop-s.invariant

pub seek_among-returns-in-Found : goal.seek_among-returns-in-Found
seek_among-returns-in-Found t c = next_found c.args.all.now c.loop-s.s-index c.s-item.result c.loop-s.left c.seek.result c.in-Found.found _ c.loop-s-test.true c.s-item.is c.in-Found.is c.seek.ensures c.loop-s.invariant

pub seek_among-returns : goal.seek_among-returns
seek_among-returns t c = all_passed c.args.all.now c.loop-s.s-index c.loop-s.left _ c.loop-s-test.false c.loop-s.invariant

pub seek-returns-in-Block : goal.seek-returns-in-Block
seek-returns-in-Block t c = c.seek_among.ensures ∙ ap (λ ls. sought ls c.args.number) (within_block c.args.s.now.form c.in-Block.all c.as_slice.result.now c.in-Block.is c.as_slice.ensures)

pub seek-returns-in-Found : goal.seek-returns-in-Found
seek-returns-in-Found t c =
    first_branch c.args.s.now.form c.in-If.field-0 c.in-If.then c.in-If.other c.deref.result.now c.args.number c.seek.result c.in-Found.found c.in-If.is c.deref.ensures c.in-Found.is c.seek.ensures

pub seek-returns-in-Passed : goal.seek-returns-in-Passed
seek-returns-in-Passed t c =
    second_branch c.args.s.now.form c.in-If.field-0 c.in-If.then c.in-If.other c.deref.result.now c.args.number c.in-Passed.left c.seek.result c.seek_in_else.result c.in-If.is c.deref.ensures c.in-Passed.is c.seek.ensures
    c.seek_in_else.ensures
