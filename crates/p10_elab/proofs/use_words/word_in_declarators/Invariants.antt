use Rattle.std.proofs.Common.{◌≡◌, map, drop}
use Rattle.p10_syn.specs.BuiltStatements.{init_declarator_of}
use Rattle.p10_elab.specs.UseWords.{word_in_declarators}
use Rattle.p10_elab.proofs.use_words.word_in_declarators.Given as goal

abbrev pub invariant-loop-d : goal.invariant-loop-d
invariant-loop-d l =
    word_in_declarators l.number l.found (map init_declarator_of (drop l.d-index l.all)) ≡ word_in_declarators l.number l.fn.found (map init_declarator_of l.all)
