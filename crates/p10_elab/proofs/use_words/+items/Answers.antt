use Rattle.std.proofs.Common.{◌∙◌, sym}
use Rattle.p10_heads.proofs.ListRows.{cut_list}
use Rattle.p10_elab.proofs.WordsOfUses.{braced_word, step_items}
use Rattle.p10_elab.proofs.use_words.+items.Goals as goal

pub word_in_initializer-returns-in-Braced : goal.word_in_initializer-returns-in-Braced
word_in_initializer-returns-in-Braced t c =
    braced_word c.args.number c.args.found _ c.args.i.now c.in-Braced.field-0 c.in-Braced.all c.in-Braced.field-2 c.deref.result.now c.in-Braced.is c.deref.ensures.value c.word_in_items.ensures

pub word_in_items-loop-i-preserved : goal.word_in_items-loop-i-preserved
word_in_items-loop-i-preserved t c =
    sym (step_items c.args.number c.loop-i.i-index c.args.all.now c.i-item.result c.loop-i.found _
    (cut_list c.args.all.now c.loop-i.i-index c.i-item.result c.loop-i-test.true c.i-item.is) c.word_in_initializer-found.ensures)
    ∙ c.loop-i.invariant
