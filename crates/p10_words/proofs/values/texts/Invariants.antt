use Rattle.std.proofs.Common.{◌≡◌, map, take}
use Rattle.p10_words.proofs.values.texts.Given as goal

abbrev pub invariant-loop-word : goal.invariant-loop-word
invariant-loop-word l = l.found ≡ map (λ w. w.now) (take l.word-index l.words)
