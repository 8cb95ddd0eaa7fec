use Rattle.std.proofs.Common.{◌≡◌, map, length}
use Rattle.p10_syn.specs.Trees.{specifier_row}
use Rattle.p10_syn.specs.Built.{specifier_of}
use Rattle.p10_elabs.specs.Locals.{names_other}
use Rattle.p10_elabs.proofs.specifiers.names_other.Given as goal

abbrev pub invariant-loop-rest : goal.invariant-loop-rest
invariant-loop-rest l = names_other (specifier_row (map specifier_of l.rest)) ≡ names_other (specifier_row (map specifier_of l.specs))

abbrev pub decreases-loop-rest : goal.decreases-loop-rest
decreases-loop-rest l = length l.rest
