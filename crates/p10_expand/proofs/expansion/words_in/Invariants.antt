use Rattle.std.specs.Prelude.{◌≡◌, take}
use Rattle.p10_base.specs.Words.{plain_words, words_at}
use Rattle.p10_expand.proofs.expansion.words_in.Given as goal

abbrev pub invariant-loop-place : goal.invariant-loop-place
invariant-loop-place l = plain_words l.words.items ≡ words_at l.file l.text (take l.place-index l.places)
