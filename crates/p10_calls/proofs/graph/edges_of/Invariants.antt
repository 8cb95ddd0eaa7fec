-- The edges of the calls so far.
use Rattle.std.proofs.Common.{◌≡◌, take}
use Rattle.std.specs.List.{filter_map}
use Rattle.p10_calls.specs.private.Numbering.{edge_of}
use Rattle.p10_calls.proofs.graph.edges_of.Given as goal

abbrev pub invariant-loop-site : goal.invariant-loop-site
invariant-loop-site l = l.edges.items ≡ filter_map (edge_of l.count) (take l.site-index l.sites)
