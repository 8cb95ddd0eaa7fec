use Rattle.std.proofs.Common.{drop}
use Rattle.p10_sums.specs.private.Tallies.{counting_by}
use Rattle.p10_sums.proofs.Rows.{Totals, statements_all}
use Rattle.p10_sums.proofs.statements.+statements.Given as goal

-- the total so far, and what is left
abbrev pub invariant-statements_tally-loop-s : goal.invariant-statements_tally-loop-s
invariant-statements_tally-loop-s l = Totals (statements_all (counting_by l.basis) l.all) l.total (statements_all (counting_by l.basis) (drop l.s-index l.all))
