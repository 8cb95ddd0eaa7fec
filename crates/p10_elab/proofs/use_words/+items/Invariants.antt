use Rattle.std.proofs.Common.{◌≡◌, map, drop}
use Rattle.p10_syn.specs.Trees.{initializer_row}
use Rattle.p10_syn.specs.BuiltStatements.{initializer_of}
use Rattle.p10_elab.specs.UseWords.{word_in_items}
use Rattle.p10_elab.proofs.use_words.+items.Given as goal

abbrev pub invariant-word_in_items-loop-i : goal.invariant-word_in_items-loop-i
invariant-word_in_items-loop-i l =
    word_in_items l.number l.found (initializer_row (map initializer_of (drop l.i-index l.all))) ≡ word_in_items l.number l.fn.found (initializer_row (map initializer_of l.all))
