use Rattle.std.proofs.Common.{◌≡◌, ◌+◌, ◌*◌, map, drop}
use Rattle.p10_core.specs.Types.{plain_member}
use Rattle.p10_core.specs.Views.{plain_types}
use Rattle.p10_elabd.specs.private.Heads.{first_of_members}
use Rattle.p10_elabd.proofs.first_scalar.+scalars.Given as goal

abbrev pub invariant-first_of_members-loop-member : goal.invariant-first_of_members-loop-member
invariant-first_of_members-loop-member l =
    first_of_members l.depth (plain_types l.types) (map plain_member (drop l.member-index l.members)) ≡ first_of_members l.depth (plain_types l.types) (map plain_member l.members)

abbrev pub decreases-scalar_within : goal.decreases-scalar_within
decreases-scalar_within l = 3 * l.depth + 1

abbrev pub decreases-structure_scalar : goal.decreases-structure_scalar
decreases-structure_scalar l = 3 * l.depth

abbrev pub decreases-first_of_members : goal.decreases-first_of_members
decreases-first_of_members l = 3 * l.depth + 2
