use Rattle.std.proofs.Common.{◌≡◌, ◌-◌, ◌≤◌, length, map, drop, ◌++◌}
use Rattle.p10_base.specs.Words.{plain_word}
use Rattle.p10_macros.specs.Answers.{table_of}
use Rattle.p10_expand.specs.Conditionals.{answered}
use Rattle.p10_expand.proofs.expansion.condition.answer.Given as goal

-- the words so far, and those that are left
abbrev pub invariant-loop-place : goal.invariant-loop-place
invariant-loop-place l = record {
  within : l.place ≤ length l.condition;
  same : map plain_word l.out.items ++ answered (table_of l.macros) 0 (drop l.place (map plain_word l.condition)) ≡ answered (table_of l.macros) 0 (map plain_word l.condition);
}

abbrev pub decreases-loop-place : goal.decreases-loop-place
decreases-loop-place l = length l.condition - l.place
