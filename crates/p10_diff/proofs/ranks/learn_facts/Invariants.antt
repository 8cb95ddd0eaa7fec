use Rattle.std.proofs.Common.{◌≡◌, ◌≤◌, length, map, drop}
use Rattle.p10_diff.specs.Evidence.{facts_learned}
use Rattle.p10_diff.specs.Listed.{bounds_listed}
use Rattle.p10_diff.specs.Ranked.{fact_by}
use Rattle.p10_diff.proofs.ranks.learn_facts.Given as goal

-- the facts from a number on are learned
abbrev pub invariant-loop-left : goal.invariant-loop-left
invariant-loop-left l = record {
  within : l.left ≤ length l.facts;
  learned : bounds_listed l.bounds.items ≡ facts_learned (map fact_by (drop l.left l.facts)) (bounds_listed l.initial.bounds.items);
}

abbrev pub decreases-loop-left : goal.decreases-loop-left
decreases-loop-left l = l.left
