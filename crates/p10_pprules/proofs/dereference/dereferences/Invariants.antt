use Rattle.std.proofs.Common.{◌≡◌, false, map, drop}
use Rattle.p10_base.specs.Words.{plain_word}
use Rattle.p10_pprules.specs.private.Scanning.{dereferences_behind}
use Rattle.p10_pprules.proofs.dereference.dereferences.Given as goal

-- the words have a dereference where those that are left have one
abbrev pub invariant-loop-word : goal.invariant-loop-word
invariant-loop-word l = dereferences_behind false (map plain_word l.words) ≡ dereferences_behind l.operand (map plain_word (drop l.word-index l.words))
