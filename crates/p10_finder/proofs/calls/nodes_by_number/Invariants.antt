-- The nodes so far that are alone with their numbers are at their places.
use Rattle.p10_finder.specs.private.Visiting.{FindsLone}
use Rattle.p10_finder.proofs.calls.nodes_by_number.Given as goal

abbrev pub invariant-loop-node : goal.invariant-loop-node
invariant-loop-node l = FindsLone l.numbers l.nodes.items l.node
