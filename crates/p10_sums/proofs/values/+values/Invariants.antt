use Rattle.std.proofs.Common.{drop}
use Rattle.p10_sums.specs.private.Tallies.{counting_by}
use Rattle.p10_sums.proofs.Rows.{Totals, values_all}
use Rattle.p10_sums.proofs.values.+values.Given as goal

-- the total so far, and what is left
abbrev pub invariant-values_tally-loop-v : goal.invariant-values_tally-loop-v
invariant-values_tally-loop-v l = Totals (values_all (counting_by l.basis) l.all) l.total (values_all (counting_by l.basis) (drop l.v-index l.all))
