-- The calls among the nodes that were passed are put down, those among the others are to come.
use Rattle.std.proofs.Common.{◌≡◌, ◌++◌, length, map}
use Rattle.p10_core.specs.Walks.{left_in}
use Rattle.p10_calls.specs.CallSites.{calls_among, site}
use Rattle.p10_calls.proofs.sites.push_sites.Given as goal

abbrev pub invariant-loop-nodes : goal.invariant-loop-nodes
invariant-loop-nodes l = l.sites.items ++ map (site l.caller) (calls_among (left_in l.nodes)) ≡ l.initial.sites.items ++ map (site l.caller) (calls_among (left_in l.initial.nodes))

abbrev pub decreases-loop-nodes : goal.decreases-loop-nodes
decreases-loop-nodes l = length (left_in l.nodes)
