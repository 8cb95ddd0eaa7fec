use Rattle.std.specs.Prelude.{◌≡◌, map, take}
use Rattle.p10_base.specs.Words.{place_of_word, plain_words}
use Rattle.p10_expand.proofs.reading.word_places.Given as goal

abbrev pub invariant-loop-word : goal.invariant-loop-word
invariant-loop-word l = l.places.items ≡ map place_of_word (plain_words (take l.word-index l.words))
