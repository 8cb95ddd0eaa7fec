use Rattle.std.proofs.Common.{◌≡◌, ◌++◌, length}
use Rattle.p10_base.specs.Words.{plain_words}
use Rattle.p10_digests.specs.Lines.{hashed_lines}
use Rattle.p10_digests.proofs.words.put_words.Given as goal

abbrev pub invariant-loop-words : goal.invariant-loop-words
invariant-loop-words l = l.text.items ++ hashed_lines (plain_words l.words) ≡ l.fn.text.items ++ hashed_lines (plain_words l.initial.words)

abbrev pub decreases-loop-words : goal.decreases-loop-words
decreases-loop-words l = length l.words
