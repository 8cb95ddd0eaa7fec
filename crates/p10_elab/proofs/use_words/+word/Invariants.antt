use Rattle.std.proofs.Common.{◌≡◌, map, drop}
use Rattle.p10_syn.specs.Trees.{expression_row}
use Rattle.p10_syn.specs.Built.{expression_of}
use Rattle.p10_elab.specs.UseWords.{word_in_all}
use Rattle.p10_elab.proofs.use_words.+word.Given as goal

abbrev pub invariant-word_in_all-loop-e : goal.invariant-word_in_all-loop-e
invariant-word_in_all-loop-e l =
    word_in_all l.number l.found (expression_row (map expression_of (drop l.e-index l.all))) ≡ word_in_all l.number l.fn.found (expression_row (map expression_of l.all))
