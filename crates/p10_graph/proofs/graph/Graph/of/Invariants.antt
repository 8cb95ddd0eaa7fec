use Rattle.std.proofs.Common.{◌≡◌, length, take}
use Rattle.p10_graph.proofs.Building.{Edges}
use Rattle.p10_graph.proofs.graph.Graph.of.Given as goal

-- the edges so far
abbrev pub invariant-loop-edge : goal.invariant-loop-edge
invariant-loop-edge l = record { count : length l.graph ≡ l.count; edges : Edges (take l.edge-index l.edges) l.graph }
