use Rattle.std.proofs.Common.{◌≡◌, map, length}
use Rattle.p10_syn.specs.Trees.{parameter_row}
use Rattle.p10_syn.specs.Declaring.{after_parameters}
use Rattle.p10_syn.specs.Built.{bare_parameter_of}
use Rattle.p10_parse.proofs.parameters.declare_each.Given as goal

abbrev pub invariant-loop-rest : goal.invariant-loop-rest
invariant-loop-rest l = after_parameters l.scope (parameter_row (map bare_parameter_of l.rest)) ≡ after_parameters l.fn.scope (parameter_row (map bare_parameter_of l.parameters))

abbrev pub decreases-loop-rest : goal.decreases-loop-rest
decreases-loop-rest l = length l.rest
