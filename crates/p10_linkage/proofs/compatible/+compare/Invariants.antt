use Rattle.std.proofs.Common.{◌≡◌, ◌+◌, ◌*◌, map, drop}
use Rattle.p10_core.specs.Types.{plain_member}
use Rattle.p10_core.specs.Views.{plain_types}
use Rattle.p10_linkage.specs.Compatible.{members_compatible, types_compatible, compatible_within}
use Rattle.p10_linkage.proofs.compatible.+compare.Given as goal

-- each pair of structures that is compared makes the rest smaller; on the way from one pair to the next the parts get smaller
abbrev pub decreases-compare_structures : goal.decreases-compare_structures
decreases-compare_structures l = l.more * 4

abbrev pub decreases-compare_bodies : goal.decreases-compare_bodies
decreases-compare_bodies l = l.more * 4 + 3

abbrev pub decreases-compare_members : goal.decreases-compare_members
decreases-compare_members l = l.more * 4 + 2

abbrev pub decreases-compare_types : goal.decreases-compare_types
decreases-compare_types l = l.more * 4 + 1

abbrev pub invariant-compare_members-loop-place : goal.invariant-compare_members-loop-place
invariant-compare_members-loop-place l =
    members_compatible (types_compatible (compatible_within l.more (plain_types l.types))) (map plain_member (drop l.place l.members)) (map plain_member (drop l.place l.others)) l.pairs.items
    ≡ members_compatible (types_compatible (compatible_within l.more (plain_types l.types))) (map plain_member l.members) (map plain_member l.others) l.fn.pairs.items
