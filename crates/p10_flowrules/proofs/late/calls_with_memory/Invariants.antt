-- The calls among the nodes that were passed are put down, those among the others are to come.
use Rattle.std.proofs.Common.{◌≡◌, ◌++◌, length}
use Rattle.std.specs.List.{filter}
use Rattle.p10_core.specs.Walks.{left_in}
use Rattle.p10_flowrules.specs.AnyCalls.{calls_made}
use Rattle.p10_flowrules.specs.private.MemoryGraphs.{has_memory_number}
use Rattle.p10_flowrules.proofs.late.calls_with_memory.Given as goal

abbrev pub invariant-loop-nodes : goal.invariant-loop-nodes
invariant-loop-nodes l =
    l.calls.items ++ filter (λ c. has_memory_number l.numbers c.called) (calls_made (left_in l.nodes))
    ≡ l.initial.calls.items ++ filter (λ c. has_memory_number l.numbers c.called) (calls_made (left_in l.initial.nodes))

abbrev pub decreases-loop-nodes : goal.decreases-loop-nodes
decreases-loop-nodes l = length (left_in l.nodes)
