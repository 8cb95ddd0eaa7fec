use Rattle.std.proofs.Common.{◌∙◌, sym}
use Rattle.p10_heads.proofs.ListRows.{cut_list}
use Rattle.p10_elab.proofs.WordsOfUses.{call_word, comma_word, step_expressions}
use Rattle.p10_elab.proofs.use_words.+word.Goals as goal

pub word_in-returns-in-Call : goal.word_in-returns-in-Call
word_in-returns-in-Call t c =
    call_word c.args.number c.args.found _ _ c.args.e.now c.deref-in-Call-2.result.now c.in-Call.f c.in-Call.all c.deref-in-Call.result.now
    c.in-Call.is c.deref-in-Call-2.ensures c.deref-in-Call.ensures.value c.word_in-in-Call.ensures c.word_in_all.ensures

pub word_in-returns-in-Comma : goal.word_in-returns-in-Comma
word_in-returns-in-Comma t c =
    comma_word c.args.number c.args.found _ c.args.e.now c.in-Comma.all c.deref-in-Comma.result.now c.in-Comma.is c.deref-in-Comma.ensures.value c.word_in_all-in-Comma.ensures

pub word_in_all-loop-e-preserved : goal.word_in_all-loop-e-preserved
word_in_all-loop-e-preserved t c =
    sym (step_expressions c.args.number c.loop-e.e-index c.args.all.now c.e-item.result c.loop-e.found _
    (cut_list c.args.all.now c.loop-e.e-index c.e-item.result c.loop-e-test.true c.e-item.is) c.word_in-found.ensures)
    ∙ c.loop-e.invariant
