-- The scalars of the members so far were taken off.
use Rattle.std.proofs.Common.{◌≡◌, ◌+◌, length, map, take}
use Rattle.std.specs.Prelude.{flat_map}
use Rattle.p10_core.specs.Types.{PlainMember, plain_member, bare}
use Rattle.p10_core.specs.Sizes.{scalars_of}
use Rattle.p10_core.specs.Views.{plain_types}
use Rattle.p10_machine.proofs.kinds.place_within.Given as goal

abbrev pub invariant-loop-place : goal.invariant-loop-place
invariant-loop-place l =
    length (flat_map (λ (x : PlainMember). scalars_of (plain_types l.types) (bare (plain_types l.types) x.type)) (take l.place (map plain_member l.members))) + l.left ≡ l.number
