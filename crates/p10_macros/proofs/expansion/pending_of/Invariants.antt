use Rattle.std.proofs.Common.{◌≡◌, ◌≤◌, length, map, drop}
use Rattle.std.specs.Prelude.{reverse}
use Rattle.p10_macros.specs.private.Beginning.{unread, traced_of}
use Rattle.p10_macros.proofs.expansion.pending_of.Given as goal

-- the words after a place are pending
abbrev pub invariant-loop-place : goal.invariant-loop-place
invariant-loop-place l = record {
  inside : l.place ≤ length l.words;
  behind : traced_of (reverse l.pending.words.items) ≡ map unread (drop l.place l.words);
}

abbrev pub decreases-loop-place : goal.decreases-loop-place
decreases-loop-place l = l.place
