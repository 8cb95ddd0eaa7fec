use Rattle.std.proofs.Common.{◌≡◌, ◌++◌, length, option_map}
use Rattle.p10_lex.specs.Literals.{values_of}
use Rattle.p10_lex.specs.private.Scanning.{place_values}
use Rattle.p10_lex.proofs.characters.bytes_between.Given as goal

-- the values so far, and those of what is left, are those of all
abbrev pub invariant-loop-value : goal.invariant-loop-value
invariant-loop-value l = option_map (λ values. l.bytes.items ++ values) (place_values 34 l.place) ≡ values_of 34 l.inside

abbrev pub decreases-loop-value : goal.decreases-loop-value
decreases-loop-value l = length l.place.rest.now
