use Rattle.std.proofs.Common.{◌≡◌, ◌++◌, drop}
use Rattle.p10_diff.proofs.tables.copied_table.Given as goal

-- with what is left it is the whole
abbrev pub invariant-loop-list : goal.invariant-loop-list
invariant-loop-list l = l.all.items ++ drop l.list-index l.table ≡ l.table
