use Rattle.std.proofs.Common.{◌≡◌, ◌++◌, map, drop}
use Rattle.p10_core.specs.Types.{plain_type, plain_member}
use Rattle.p10_elabd.proofs.slots.member_types.Given as goal

abbrev pub invariant-loop-member : goal.invariant-loop-member
invariant-loop-member l =
    map plain_type l.types.items ++ map (λ m. m.type) (map plain_member (drop l.member-index l.members)) ≡ map (λ m. m.type) (map plain_member l.members)
