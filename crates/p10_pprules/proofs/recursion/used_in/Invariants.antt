use Rattle.std.proofs.Common.{◌≡◌, map, take}
use Rattle.std.specs.List.{filter_map}
use Rattle.p10_base.specs.Words.{plain_word}
use Rattle.p10_pprules.specs.private.Listing.{used_by}
use Rattle.p10_pprules.proofs.recursion.used_in.Given as goal

-- the places of the macros that the words so far use
abbrev pub invariant-loop-word : goal.invariant-loop-word
invariant-loop-word l = l.places.items ≡ filter_map (used_by l.names l.parameters) (map plain_word (take l.word-index l.words))
