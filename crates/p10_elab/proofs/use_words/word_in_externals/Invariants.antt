use Rattle.std.proofs.Common.{◌≡◌, map, drop}
use Rattle.p10_syn.specs.BuiltStatements.{external_of}
use Rattle.p10_elab.specs.UseWords.{word_in_externals}
use Rattle.p10_elab.proofs.use_words.word_in_externals.Given as goal

abbrev pub invariant-loop-unit : goal.invariant-loop-unit
invariant-loop-unit l =
    word_in_externals l.number l.found (map external_of (drop l.unit-index l.units)) ≡ word_in_externals l.number l.fn.found (map external_of l.units)
