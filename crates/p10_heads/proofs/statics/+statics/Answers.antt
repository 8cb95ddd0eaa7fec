use Rattle.std.proofs.Common.{map, ap}
use Rattle.p10_syn.specs.Trees.{statement_row}
use Rattle.p10_syn.specs.BuiltStatements.{statement_of}
use Rattle.p10_heads.specs.Heads.{heads_in_all}
use Rattle.p10_heads.proofs.ListRows.{cut_list, more_put}
use Rattle.p10_heads.proofs.BlockObjects.{block_put}
use Rattle.p10_heads.proofs.statics.+statics.Goals as goal

pub put_all_statics-loop-s-preserved : goal.put_all_statics-loop-s-preserved
put_all_statics-loop-s-preserved t c =
    more_put _ _ _ _ _ _ c.in_ok-put_statics_in.ensures
    (ap (λ xs. heads_in_all c.args.root (statement_row (map statement_of xs))) (cut_list c.args.all.now c.loop-s.s-index c.s-item.result c.loop-s-test.true c.s-item.is))
    c.loop-s.invariant

pub put_statics_in-returns-in_ok-put_all_statics-in-Block : goal.put_statics_in-returns-in_ok-put_all_statics-in-Block
put_statics_in-returns-in_ok-put_all_statics-in-Block t c =
    block_put c.args.root c.args.s.now c.in-Block.field-0 c.in-Block.all c.deref.result.now _ _ c.in-Block.is c.deref.ensures.value c.in_ok-put_all_statics-in-Block.ensures
