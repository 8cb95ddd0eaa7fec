use Rattle.std.proofs.Common.{drop}
use Rattle.p10_sums.specs.private.Tallies.{counting_by}
use Rattle.p10_sums.proofs.Rows.{Totals, items_all}
use Rattle.p10_sums.proofs.initializers.items_tally.Given as goal

-- the total so far, and what is left
abbrev pub invariant-loop-item : goal.invariant-loop-item
invariant-loop-item l = Totals (items_all (counting_by l.basis) l.all) l.total (items_all (counting_by l.basis) (drop l.item-index l.all))
