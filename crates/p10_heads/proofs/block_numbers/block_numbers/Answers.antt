use Rattle.p10_heads.proofs.ListRows.{cut_at}
use Rattle.p10_heads.proofs.BlockNumbers.{block_turn, block_end}
use Rattle.p10_heads.proofs.block_numbers.block_numbers.Goals as goal

pub loop-head-preserved : goal.loop-head-preserved
loop-head-preserved c = λ first.
    block_turn first c.loop-head.head-index c.loop-head.number _ c.args.heads.now _ _ _ _ (cut_at c.args.heads.now c.loop-head.head-index _ c.loop-head-test.true) c.in_ok-number.ensures (c.in_ok-note.ensures first) (c.loop-head.invariant first)

pub returns : goal.returns
returns c = λ first. block_end first c.loop-head.head-index c.loop-head.number c.args.heads.now _ _ c.loop-head-test.false (c.loop-head.invariant first)
