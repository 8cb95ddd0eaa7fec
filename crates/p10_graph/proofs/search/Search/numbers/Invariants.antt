use Rattle.std.proofs.Common.{◌≡◌, map, take}
use Rattle.p10_graph.specs.private.Searching.{number_at}
use Rattle.p10_graph.proofs.search.Search.numbers.Given as goal

-- the numbers so far
abbrev pub invariant-loop-mark : goal.invariant-loop-mark
invariant-loop-mark l = l.numbers.items ≡ map number_at (take l.mark-index l.self.marks.items)
