use Rattle.std.proofs.Common.{◌≡◌, ◌+◌, map}
use Rattle.p10_graph.proofs.ClosingLoop.{closing_to}
use Rattle.p10_graph.proofs.search.close_nodes.Given as goal

-- the nodes so far are closed
abbrev pub invariant-loop-node : goal.invariant-loop-node
invariant-loop-node l = l.marks ≡ map (closing_to l.start (l.start + l.node-index) l.number) l.fn.marks
