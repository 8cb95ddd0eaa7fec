use Rattle.std.proofs.Common.{◌≡◌, map, drop}
use Rattle.p10_syn.specs.Trees.{statement_row}
use Rattle.p10_syn.specs.BuiltStatements.{statement_of}
use Rattle.p10_elab.specs.UseWords.{word_in_statements}
use Rattle.p10_elab.proofs.use_words.+statements.Given as goal

abbrev pub invariant-word_in_statements-loop-s : goal.invariant-word_in_statements-loop-s
invariant-word_in_statements-loop-s l =
    word_in_statements l.number l.found (statement_row (map statement_of (drop l.s-index l.all))) ≡ word_in_statements l.number l.fn.found (statement_row (map statement_of l.all))
