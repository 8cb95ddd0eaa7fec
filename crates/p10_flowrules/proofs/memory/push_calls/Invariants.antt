-- The edges of the nodes that were passed are put down, those of the others are to come.
use Rattle.std.proofs.Common.{◌≡◌, ◌++◌, drop}
use Rattle.p10_flowrules.specs.private.MemoryGraphs.{edges_from}
use Rattle.p10_flowrules.proofs.memory.push_calls.Given as goal

abbrev pub invariant-loop-node : goal.invariant-loop-node
invariant-loop-node l = l.edges.items ++ edges_from l.node (drop l.node l.calls) ≡ l.initial.edges.items ++ edges_from 0 l.calls
