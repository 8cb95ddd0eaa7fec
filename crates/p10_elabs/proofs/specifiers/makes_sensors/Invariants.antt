use Rattle.std.proofs.Common.{◌≡◌, map, length}
use Rattle.p10_syn.specs.Trees.{specifier_row}
use Rattle.p10_syn.specs.Built.{specifier_of, specifiers_in}
use Rattle.p10_elabd.specs.Words.{has_word, is_volatile}
use Rattle.p10_elabs.proofs.specifiers.makes_sensors.Given as goal

abbrev pub invariant-loop-rest : goal.invariant-loop-rest
invariant-loop-rest l = has_word is_volatile (specifier_row (map specifier_of l.rest)) ≡ has_word is_volatile (specifiers_in l.d.specs)

abbrev pub decreases-loop-rest : goal.decreases-loop-rest
decreases-loop-rest l = length l.rest
