use Rattle.std.proofs.Common.{◌≡◌, ◌-◌, length}
use Rattle.p10_diff.specs.Listed.{list_at}
use Rattle.p10_diff.proofs.tables.fill.Given as goal

-- the lists are the same
abbrev pub invariant-loop-alloc : goal.invariant-loop-alloc
invariant-loop-alloc l = list_at l.table.items ≡ list_at l.initial.table.items

abbrev pub decreases-loop-alloc : goal.decreases-loop-alloc
decreases-loop-alloc l = 256 - length l.table.items
