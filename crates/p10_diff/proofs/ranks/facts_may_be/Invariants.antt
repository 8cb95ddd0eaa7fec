use Rattle.std.proofs.Common.{◌≡◌, drop, map}
use Rattle.p10_core.specs.Views.{plain_function}
use Rattle.p10_diff.specs.Evidence.{facts_may_be}
use Rattle.p10_diff.specs.Knowing.{pair_by}
use Rattle.p10_diff.specs.Ranked.{fact_by}
use Rattle.p10_diff.proofs.ranks.facts_may_be.Given as goal

-- what is left decides what the whole decides
abbrev pub invariant-loop-x : goal.invariant-loop-x
invariant-loop-x l =
    facts_may_be (plain_function l.function) (pair_by l.p) l.entry.values (map fact_by (drop l.x-index l.facts)) ≡ facts_may_be (plain_function l.function) (pair_by l.p) l.entry.values (map fact_by l.facts)
