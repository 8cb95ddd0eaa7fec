use Rattle.std.proofs.Common.{◌≡◌, ◌++◌, flat_map, length}
use Rattle.p10_core.specs.Walks.{left_in}
use Rattle.p10_warn.specs.private.Listing.{node_violations}
use Rattle.p10_warn.proofs.nodes.push_by_nodes.Given as goal

-- the violations by the nodes so far, and by those that are left, are those by all
abbrev pub invariant-loop-node : goal.invariant-loop-node
invariant-loop-node l = l.violations.items ++ flat_map node_violations (left_in l.nodes) ≡ l.initial.violations.items ++ flat_map node_violations (left_in l.initial.nodes)

abbrev pub decreases-loop-node : goal.decreases-loop-node
decreases-loop-node l = length (left_in l.nodes)
