use Rattle.std.proofs.Common.{◌≡◌, map, length}
use Rattle.p10_syn.specs.Trees.{enumerator_row}
use Rattle.p10_syn.specs.Declaring.{after_enumerators}
use Rattle.p10_syn.specs.Built.{bare_enumerator_of}
use Rattle.p10_parse.proofs.parameters.declare_enumerators.Given as goal

abbrev pub invariant-loop-rest : goal.invariant-loop-rest
invariant-loop-rest l = after_enumerators l.scope (enumerator_row (map bare_enumerator_of l.rest)) ≡ after_enumerators l.fn.scope (enumerator_row (map bare_enumerator_of l.enumerators))

abbrev pub decreases-loop-rest : goal.decreases-loop-rest
decreases-loop-rest l = length l.rest
