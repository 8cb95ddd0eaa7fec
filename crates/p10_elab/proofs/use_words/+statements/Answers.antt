use Rattle.std.proofs.Common.{◌∙◌, sym}
use Rattle.p10_heads.proofs.ListRows.{cut_list}
use Rattle.p10_elab.proofs.WordsOfUses.{block_word, step_statements}
use Rattle.p10_elab.proofs.use_words.+statements.Goals as goal

pub word_in_statement-returns-in-Block : goal.word_in_statement-returns-in-Block
word_in_statement-returns-in-Block t c =
    block_word c.args.number c.args.found _ c.args.s.now c.in-Block.field-0 c.in-Block.all c.deref.result.now c.in-Block.is c.deref.ensures.value c.word_in_statements.ensures

pub word_in_statements-loop-s-preserved : goal.word_in_statements-loop-s-preserved
word_in_statements-loop-s-preserved t c =
    sym (step_statements c.args.number c.loop-s.s-index c.args.all.now c.s-item.result c.loop-s.found _
    (cut_list c.args.all.now c.loop-s.s-index c.s-item.result c.loop-s-test.true c.s-item.is) c.word_in_statement-found.ensures)
    ∙ c.loop-s.invariant
