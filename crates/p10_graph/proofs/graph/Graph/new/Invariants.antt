use Rattle.std.proofs.Common.{◌≡◌, [], map, replicate}
use Rattle.p10_graph.proofs.graph.Graph.new.Given as goal

-- a list without successors for each node so far
abbrev pub invariant-loop : goal.invariant-loop
invariant-loop l = map (λ row. row.items) l.successors.items ≡ replicate l.counter []
