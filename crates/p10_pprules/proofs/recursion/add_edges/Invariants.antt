use Rattle.std.proofs.Common.{take}
use Rattle.p10_pprules.specs.private.Graphs.{AddsEdges}
use Rattle.p10_pprules.proofs.recursion.add_edges.Given as goal

-- the edges to the ends so far were added
abbrev pub invariant-loop-end : goal.invariant-loop-end
invariant-loop-end l = AddsEdges l.from (take l.end-index l.ends) l.initial.graph l.graph
