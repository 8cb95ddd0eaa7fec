use Rattle.std.proofs.Common.{◌≡◌, ℕ, List, bytes_eq, map, take}
use Rattle.std.specs.List.{list_any}
use Rattle.p10_base.specs.Words.{plain_word, spellings_of}
use Rattle.p10_pprules.proofs.recursion.names_of.Given as goal

-- the texts of the words so far
abbrev pub invariant-loop-word : goal.invariant-loop-word
invariant-loop-word l = (text : List ℕ) → list_any (bytes_eq text) l.names ≡ list_any (bytes_eq text) (spellings_of (map plain_word (take l.word-index l.words)))
