-- The nodes with smaller numbers have their ranks.
use Rattle.p10_calls.specs.private.Numbering.{AreRankedBelow}
use Rattle.p10_calls.proofs.ranking.ranks_along.Given as goal

abbrev pub invariant-loop-number : goal.invariant-loop-number
invariant-loop-number l = AreRankedBelow l.graph l.numbers l.ranks.items l.number
