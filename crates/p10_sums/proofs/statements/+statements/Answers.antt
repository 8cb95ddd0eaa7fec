use Rattle.p10_sums.specs.private.Tallies.{counting_by}
use Rattle.p10_sums.proofs.ListedStatements.{block_counted, loop_counted}
use Rattle.p10_sums.proofs.Rows.{started, counted_on, statements_start, statements_next, statements_end}
use Rattle.p10_sums.proofs.statements.+statements.Goals as goal

pub statement_tally-returns-in-Block : goal.statement_tally-returns-in-Block
statement_tally-returns-in-Block t c =
    block_counted (counting_by c.args.basis.now) c.args.s.now.form c.in-Block.items c.as_slice.result.now c.statements_tally.result c.in-Block.is c.as_slice.ensures c.statements_tally.ensures

pub statement_tally-returns-in-Loop : goal.statement_tally-returns-in-Loop
statement_tally-returns-in-Loop t c =
    loop_counted (counting_by c.args.basis.now) c.args.s.now.form c.in-Loop.head c.in-Loop.first c.in-Loop.test c.in-Loop.third c.in-Loop.body c.as_slice-in-Loop.result.now c.as_slice-in-Loop-2.result.now c.deref-in-Loop.result.now
    c.turns_of.result c.statements_tally-opened.result c.test_tally-tested.result c.statements_tally-closed.result c.statement_tally-turned.result c.loop_tally.result
    c.in-Loop.is c.as_slice-in-Loop.ensures c.as_slice-in-Loop-2.ensures c.deref-in-Loop.ensures
    c.turns_of.ensures c.statements_tally-opened.ensures c.test_tally-tested.ensures c.statements_tally-closed.ensures c.statement_tally-turned.ensures c.loop_tally.ensures

pub statements_tally-loop-s-init : goal.statements_tally-loop-s-init
statements_tally-loop-s-init t c = started _ _ _ c.no_tally-total.ensures (statements_start (counting_by c.args.basis.now) c.args.all.now)

pub statements_tally-loop-s-preserved : goal.statements_tally-loop-s-preserved
statements_tally-loop-s-preserved t c = counted_on _ _ _ _ _ _ c.in_turn-total.ensures c.statement_tally.ensures
    (statements_next (counting_by c.args.basis.now) _ _ c.args.all.now c.loop-s.s-index c.s-item.result c.loop-s-test.true c.s-item.is c.loop-s.invariant)

pub statements_tally-returns : goal.statements_tally-returns
statements_tally-returns t c = statements_end (counting_by c.args.basis.now) _ _ c.args.all.now c.loop-s.s-index c.loop-s-test.false c.loop-s.invariant
