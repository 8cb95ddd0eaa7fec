use Rattle.std.proofs.Common.{◌≡◌, ◌+◌, ◌≤◌, ◌++◌, ℕ, length, drop}
use Rattle.p10_base.specs.Words.{plain_words}
use Rattle.p10_digests.specs.Lines.{bodies_from, lines_outside}
use Rattle.p10_digests.proofs.outside.put_root.Given as goal

abbrev pub invariant-loop-rest : goal.invariant-loop-rest
invariant-loop-rest l = record {
  put : l.text.items ++ lines_outside l.bodies l.number (plain_words l.rest) ≡ l.fn.text.items ++ lines_outside l.bodies l.first (plain_words l.words);
  count : l.number + length l.rest ≡ l.first + length l.words;
  inside : l.place ≤ length l.bodies;
  ahead : (n : ℕ) → l.number ≤ n → bodies_from n (drop l.place l.bodies) ≡ bodies_from n l.bodies;
}

abbrev pub decreases-loop-rest : goal.decreases-loop-rest
decreases-loop-rest l = length l.rest
