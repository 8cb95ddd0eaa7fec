use Rattle.std.proofs.Common.{◌≤◌, length, drop}
use Rattle.p10_macros.specs.private.Putting.{PutsTraced}
use Rattle.p10_macros.proofs.replacement.put_words.Given as goal

-- the words from a place on were put
abbrev pub invariant-loop-place : goal.invariant-loop-place
invariant-loop-place l = record {
  inside : l.place ≤ length l.words;
  puts : PutsTraced l.fn.pending.words.items l.pending.words.items (drop l.place l.words) l.fn.left l.left;
}

abbrev pub decreases-loop-place : goal.decreases-loop-place
decreases-loop-place l = l.place
