use Rattle.std.proofs.Common.{◌≡◌, map, drop, bytes_eq}
use Rattle.std.specs.List.{position_from}
use Rattle.p10_core.specs.Types.{PlainMember, plain_member, member_named}
use Rattle.p10_core.proofs.members.place_of_member.Given as goal

abbrev pub invariant-loop-place : goal.invariant-loop-place
invariant-loop-place l =
    member_named l.name (map plain_member l.members)
    ≡ position_from (λ (m : PlainMember). bytes_eq m.name l.name) l.place (map plain_member (drop l.place l.members))
