use Rattle.std.proofs.Common.{◌≡◌, ◌≤◌, ◌++◌, length, map, take, drop}
use Rattle.p10_base.specs.Words.{plain_word}
use Rattle.p10_expand.specs.Obeying.{words_before}
use Rattle.p10_expand.proofs.expansion.run.count_before.Given as goal

-- the words so far stand before the place
abbrev pub invariant-loop-word : goal.invariant-loop-word
invariant-loop-word l = record {
  so_far : l.count ≡ l.word-index;
  within : l.count ≤ length l.words;
  same : map plain_word (take l.count l.words) ++ words_before l.at (map plain_word (drop l.count l.words)) ≡ words_before l.at (map plain_word l.words);
}
