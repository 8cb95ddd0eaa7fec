-- The ranks so far, and those of the loops that are left.
use Rattle.std.proofs.Common.{◌≡◌, ◌++◌, drop, map}
use Rattle.std.specs.Option.{option_map}
use Rattle.p10_diff.specs.Ranked.{rank_by}
use Rattle.p10_candidates.specs.Offering.{approach_by}
use Rattle.p10_finder.specs.Ranking.{ranks_by}
use Rattle.p10_finder.proofs.violations.put_ranks.Given as goal

abbrev pub invariant-loop-k : goal.invariant-loop-k
invariant-loop-k l = map rank_by l.ranks.items ++ ranks_by l.number l.k (map (option_map approach_by) (drop l.k l.approaches)) ≡ map rank_by l.initial.ranks.items ++ ranks_by l.number 0 (map (option_map approach_by) l.approaches)
