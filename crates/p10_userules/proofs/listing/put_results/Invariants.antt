use Rattle.std.proofs.Common.{◌≡◌, ◌++◌, length}
use Rattle.std.specs.List.{flat_map}
use Rattle.p10_core.specs.Walks.{left_in}
use Rattle.p10_userules.specs.private.Listing.{dropped_by}
use Rattle.p10_userules.proofs.listing.put_results.Given as goal

abbrev pub invariant-loop-nodes : goal.invariant-loop-nodes
invariant-loop-nodes l =
    l.found.items ++ flat_map dropped_by (left_in l.nodes) ≡ l.initial.found.items ++ flat_map dropped_by (left_in l.initial.nodes)

abbrev pub decreases-loop-nodes : goal.decreases-loop-nodes
decreases-loop-nodes l = length (left_in l.nodes)
