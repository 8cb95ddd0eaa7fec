use Rattle.std.specs.Prelude.{map}
use Rattle.std.proofs.Common.{◌≡◌, drop}
use Rattle.p10_syn.specs.Built.{qualifier_of}
use Rattle.p10_elabx.specs.TypeNames.{has_const_word}
use Rattle.p10_elabx.proofs.declarators.has_const_word.Given as goal

abbrev pub invariant-loop-qualifier : goal.invariant-loop-qualifier
invariant-loop-qualifier l = has_const_word (map qualifier_of (drop l.qualifier-index l.qualifiers)) ≡ has_const_word (map qualifier_of l.qualifiers)
