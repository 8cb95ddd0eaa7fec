use Rattle.std.proofs.Common.{◌≡◌, ◌≤◌, length}
use Rattle.p10_lex.specs.Literals.{values_from}
use Rattle.p10_lex.specs.Splices.{joined_after, joined}
use Rattle.p10_lex.proofs.characters.scan.Given as goal

-- the values from here on are those from the place on
abbrev pub invariant-loop-rest : goal.invariant-loop-rest
invariant-loop-rest l =
    (length l.rest ≤ length l.fn.place.rest.now)
    × (values_from l.quote l.mode (joined_after l.skip l.rest) ≡ values_from l.quote l.fn.place.mode (joined l.fn.place.rest.now))

abbrev pub decreases-loop-rest : goal.decreases-loop-rest
decreases-loop-rest l = length l.rest
