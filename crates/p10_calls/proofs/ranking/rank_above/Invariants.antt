-- The greatest of the nodes so far.
use Rattle.std.proofs.Common.{take}
use Rattle.p10_calls.specs.private.Numbering.{IsRankAbove}
use Rattle.p10_calls.proofs.ranking.rank_above.Given as goal

abbrev pub invariant-loop-node : goal.invariant-loop-node
invariant-loop-node l = IsRankAbove l.ranks (take l.node-index l.nodes) l.rank
