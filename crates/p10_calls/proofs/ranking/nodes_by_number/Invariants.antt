-- The nodes so far are at the places of their numbers.
use Rattle.p10_calls.proofs.Numbered.{ByNumber}
use Rattle.p10_calls.proofs.ranking.nodes_by_number.Given as goal

abbrev pub invariant-loop-node : goal.invariant-loop-node
invariant-loop-node l = ByNumber l.numbers l.nodes.items l.node
