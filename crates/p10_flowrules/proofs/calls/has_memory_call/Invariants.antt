-- No node that was passed is an allocation or `free`.
use Rattle.std.proofs.Common.{◌≡◌, length}
use Rattle.p10_core.specs.Walks.{left_in}
use Rattle.p10_flowrules.specs.Allocating.{has_memory_call}
use Rattle.p10_flowrules.proofs.calls.has_memory_call.Given as goal

abbrev pub invariant-loop-nodes : goal.invariant-loop-nodes
invariant-loop-nodes l = has_memory_call (left_in l.nodes) ≡ has_memory_call (left_in l.initial.nodes)

abbrev pub decreases-loop-nodes : goal.decreases-loop-nodes
decreases-loop-nodes l = length (left_in l.nodes)
