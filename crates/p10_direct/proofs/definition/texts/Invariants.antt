use Rattle.std.proofs.Common.{◌≡◌, map, take}
use Rattle.p10_base.specs.Words.{plain_word, spellings_of}
use Rattle.p10_direct.proofs.definition.texts.Given as goal

-- the texts of the words so far
abbrev pub invariant-loop-word : goal.invariant-loop-word
invariant-loop-word l = map (λ text. text.now) l.texts ≡ spellings_of (map plain_word (take l.word-index l.words))
