-- The edges so far.
use Rattle.std.proofs.Common.{◌≡◌, ◌++◌, take}
use Rattle.p10_flowrules.specs.private.MemoryGraphs.{edges_to}
use Rattle.p10_flowrules.proofs.memory.push_row.Given as goal

abbrev pub invariant-loop-next : goal.invariant-loop-next
invariant-loop-next l = l.edges.items ≡ l.initial.edges.items ++ edges_to l.node (take l.next-index l.row)
