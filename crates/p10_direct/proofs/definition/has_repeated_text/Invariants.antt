use Rattle.std.proofs.Common.{◌≡◌, ◌≤◌, length, drop, false}
use Rattle.p10_direct.specs.Directives.{has_repeated_text}
use Rattle.p10_direct.proofs.Repeats.{HaveTexts, texts_in}
use Rattle.p10_direct.proofs.definition.has_repeated_text.Given as goal

-- the set has the texts of the words from this place on, and none of those stands twice
abbrev pub invariant-loop-place : goal.invariant-loop-place
invariant-loop-place l = record {
  inside : l.place ≤ length l.words;
  texts : HaveTexts l.behind.keys (drop l.place l.words);
  none : has_repeated_text (texts_in (drop l.place l.words)) ≡ false;
}

abbrev pub decreases-loop-place : goal.decreases-loop-place
decreases-loop-place l = l.place
