use Rattle.std.proofs.Common.{◌≡◌, map, length}
use Rattle.p10_syn.specs.Trees.{specifier_row}
use Rattle.p10_syn.specs.Declaring.{makes_types}
use Rattle.p10_syn.specs.Built.{bare_specifier_of}
use Rattle.p10_syn.proofs.query.makes_types.Given as goal

abbrev pub invariant-loop-rest : goal.invariant-loop-rest
invariant-loop-rest l = makes_types (specifier_row (map bare_specifier_of l.rest)) ≡ makes_types (specifier_row (map bare_specifier_of l.specs))

abbrev pub decreases-loop-rest : goal.decreases-loop-rest
decreases-loop-rest l = length l.rest
