use Rattle.std.proofs.Common.{map, ap}
use Rattle.p10_syn.specs.Trees.{statement_row}
use Rattle.p10_syn.specs.BuiltStatements.{statement_of}
use Rattle.p10_synrules.specs.Parts.{statements_parts}
use Rattle.p10_synrules.proofs.Lists.{cut_list, more_put}
use Rattle.p10_synrules.proofs.Putting.{block_put}
use Rattle.p10_synrules.proofs.statement.+stepping.Goals as goal

pub put_within-returns-in_ok-put_statements-in-Block : goal.put_within-returns-in_ok-put_statements-in-Block
put_within-returns-in_ok-put_statements-in-Block t c =
    block_put c.args.s.now c.in-Block.field-0 c.in-Block.all c.deref.result.now _ _ c.in-Block.is c.deref.ensures.value c.in_ok-put_statements-in-Block.ensures

pub put_statements-loop-s-preserved : goal.put_statements-loop-s-preserved
put_statements-loop-s-preserved t c =
    more_put _ _ _ _ _ _ c.in_ok-put_statement.ensures
    (ap (λ xs. statements_parts (statement_row (map statement_of xs))) (cut_list c.args.all.now c.loop-s.s-index c.s-item.result c.loop-s-test.true c.s-item.is))
    c.loop-s.invariant
