use Rattle.std.proofs.Common.{◌≡◌, length, is_some}
use Rattle.p10_lex.specs.Literals.{values_of}
use Rattle.p10_lex.specs.private.Scanning.{place_values}
use Rattle.p10_lex.proofs.characters.are_characters.Given as goal

-- what is left is well formed where all of it is
abbrev pub invariant-loop-after : goal.invariant-loop-after
invariant-loop-after l = is_some (place_values l.quote l.place) ≡ is_some (values_of l.quote l.inside)

abbrev pub decreases-loop-after : goal.decreases-loop-after
decreases-loop-after l = length l.place.rest.now
