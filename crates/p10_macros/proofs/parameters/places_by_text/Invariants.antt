use Rattle.std.proofs.Common.{◌≡◌, map, take}
use Rattle.p10_base.specs.Words.{plain_word}
use Rattle.p10_macros.specs.private.Places.{at_word}
use Rattle.p10_macros.proofs.parameters.places_by_text.Given as goal

abbrev pub invariant-loop-word : goal.invariant-loop-word
invariant-loop-word l = l.places.items ≡ map (at_word l.by_text) (map plain_word (take l.word-index l.words))
