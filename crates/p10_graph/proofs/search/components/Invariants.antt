use Rattle.std.proofs.Common.{◌≡◌, []}
use Rattle.p10_graph.specs.private.Searching.{IsSearch, state_of}
use Rattle.p10_graph.proofs.search.components.Given as goal

-- what holds between steps; no node is open, and the nodes below the counter were covered
abbrev pub invariant-loop : goal.invariant-loop
invariant-loop l = record { keeps : IsSearch l.graph (state_of l.search); none : l.search.open_nodes.items ≡ []; covered : l.search.covered ≡ l.counter }
