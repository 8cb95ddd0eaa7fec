use Rattle.std.proofs.Common.{◌≡◌, replicate}
use Rattle.p10_graph.specs.declared.search.Mark.TheVariants.{Unseen}
use Rattle.p10_graph.proofs.search.Search.new.Given as goal

-- the nodes so far are unseen, and none of their edges is done
abbrev pub invariant-loop : goal.invariant-loop
invariant-loop l = record { marks : l.marks.items ≡ replicate l.counter Unseen; done : l.done.items ≡ replicate l.counter 0 }
