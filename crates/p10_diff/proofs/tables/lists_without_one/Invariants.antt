use Rattle.std.proofs.Common.{◌≡◌, ◌++◌, map, drop}
use Rattle.p10_diff.specs.Domain.{only}
use Rattle.p10_diff.specs.Listed.{without_marked}
use Rattle.p10_diff.proofs.tables.lists_without_one.Given as goal

-- with what is made of the rest it is what is made of the whole
abbrev pub invariant-loop-list : goal.invariant-loop-list
invariant-loop-list l = l.left.items ++ map (without_marked (only l.n)) (drop l.list-index l.table) ≡ map (without_marked (only l.n)) l.table
