-- The first literal of the number is the first of those that weren't looked at yet.
use Rattle.std.proofs.Common.{◌≡◌, map, drop, eqb}
use Rattle.std.specs.List.{position_from}
use Rattle.p10_core.specs.Typed.{PlainLiteral}
use Rattle.p10_core.specs.Views.{plain_literal}
use Rattle.p10_compile.proofs.spots.literal_place.Given as goal

abbrev pub invariant-loop-place : goal.invariant-loop-place
invariant-loop-place l =
    position_from (λ (m : PlainLiteral). eqb m.number l.number) 0 (map plain_literal l.literals)
    ≡ position_from (λ (m : PlainLiteral). eqb m.number l.number) l.place (map plain_literal (drop l.place l.literals))
