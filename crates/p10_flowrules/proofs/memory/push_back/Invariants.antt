-- The edges to the nodes from here on are put down, those to the others are to come.
use Rattle.std.proofs.Common.{◌≡◌, ◌++◌, ◌≤◌}
use Rattle.p10_flowrules.specs.private.MemoryGraphs.{back_edges}
use Rattle.p10_flowrules.proofs.memory.push_back.Given as goal

abbrev pub invariant-loop-left : goal.invariant-loop-left
invariant-loop-left l = (l.left ≤ l.memory) × (l.edges.items ++ back_edges l.memory l.left ≡ l.initial.edges.items ++ back_edges l.memory l.memory)

abbrev pub decreases-loop-left : goal.decreases-loop-left
decreases-loop-left l = l.left
