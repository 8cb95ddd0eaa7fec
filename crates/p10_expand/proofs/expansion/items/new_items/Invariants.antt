use Rattle.std.proofs.Common.{◌≡◌, ◌-◌, ◌≤◌, length, map, drop, ◌++◌}
use Rattle.p10_base.specs.Words.{plain_word}
use Rattle.p10_expand.specs.Items.{lines_of, given_after, new_words}
use Rattle.p10_expand.specs.private.Steps.{texts_in}
use Rattle.p10_expand.proofs.expansion.items.new_items.Given as goal

-- the lines so far, and those that are left
abbrev pub invariant-loop-place : goal.invariant-loop-place
invariant-loop-place l = record {
  within : l.place ≤ length l.words;
  out : map plain_word l.out.items ++ new_words (texts_in l.given.items) (lines_of (drop l.place (map plain_word l.words))) ≡ new_words (texts_in l.fn.given.items) (lines_of (map plain_word l.words));
  names : given_after (texts_in l.given.items) (lines_of (drop l.place (map plain_word l.words))) ≡ given_after (texts_in l.fn.given.items) (lines_of (map plain_word l.words));
}

abbrev pub decreases-loop-place : goal.decreases-loop-place
decreases-loop-place l = length l.words - l.place
