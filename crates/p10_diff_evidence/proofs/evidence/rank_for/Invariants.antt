use Rattle.std.proofs.Common.{◌≡◌, length, map}
use Rattle.p10_diff.specs.Evidence.{rank_for}
use Rattle.p10_diff.specs.Ranked.{rank_by}
use Rattle.p10_diff_evidence.proofs.evidence.rank_for.Given as goal

-- the rank is among those that are left
abbrev pub invariant-loop-rest : goal.invariant-loop-rest
invariant-loop-rest l = rank_for (map rank_by l.rest) l.f l.at ≡ rank_for (map rank_by l.ranks) l.f l.at

abbrev pub decreases-loop-rest : goal.decreases-loop-rest
decreases-loop-rest l = length l.rest
