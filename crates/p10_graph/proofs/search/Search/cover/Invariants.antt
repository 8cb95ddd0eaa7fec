use Rattle.std.proofs.Common.{◌≡◌, ◌+◌}
use Rattle.p10_graph.specs.private.Searching.{IsSearch, state_of, work}
use Rattle.p10_graph.proofs.search.Search.cover.Given as goal

-- what holds between steps, and that the next node was covered
abbrev pub invariant-loop-start : goal.invariant-loop-start
invariant-loop-start l = record { keeps : IsSearch l.graph (state_of l.self); covered : l.self.covered ≡ l.fn.self.covered + 1 }

abbrev pub decreases-loop-start : goal.decreases-loop-start
decreases-loop-start l = work l.graph (state_of l.self)
