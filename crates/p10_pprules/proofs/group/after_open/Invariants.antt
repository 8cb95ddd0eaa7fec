use Rattle.std.proofs.Common.{◌≡◌, ◌-◌, ◌<◌, ◌≤◌, [], ◌∷◌, length, map, drop, reverse, vec_len}
use Rattle.p10_base.specs.Words.{plain_word}
use Rattle.p10_pprules.specs.private.Scanning.{behind_open}
use Rattle.p10_pprules.proofs.group.after_open.Given as goal

-- the words after all open groups are those after the groups that are open now
abbrev pub invariant-loop-place : goal.invariant-loop-place
invariant-loop-place l = record {
  within : l.place ≤ length l.words;
  some : 0 < vec_len l.pending;
  so_far : behind_open (l.fn.bracket ∷ []) (map plain_word l.words) ≡ behind_open (reverse l.pending.items) (map plain_word (drop l.place l.words));
}

abbrev pub decreases-loop-place : goal.decreases-loop-place
decreases-loop-place l = length l.words - l.place
