use Rattle.std.proofs.Common.{◌≡◌, drop, map}
use Rattle.p10_diff.specs.Evidence.{facts_hold}
use Rattle.p10_diff.specs.Knowing.{pair_by, differences_of}
use Rattle.p10_diff.specs.Ranked.{fact_by}
use Rattle.p10_diff.proofs.ranks.facts_hold.Given as goal

-- what is left decides what the whole decides
abbrev pub invariant-loop-x : goal.invariant-loop-x
invariant-loop-x l = facts_hold (pair_by l.p) (map fact_by (drop l.x-index l.facts)) (differences_of l.e) ≡ facts_hold (pair_by l.p) (map fact_by l.facts) (differences_of l.e)
