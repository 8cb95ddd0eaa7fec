use Rattle.std.proofs.Common.{◌≡◌, ◌+◌, ◌*◌, map, drop, length}
use Rattle.p10_core.specs.Types.{plain_member}
use Rattle.p10_core.specs.Views.{plain_types}
use Rattle.p10_core.specs.Representing.{represented}
use Rattle.p10_linkage.specs.Uniting.{members_united, types_united, united_within}
use Rattle.p10_linkage.proofs.uniting.+unite.Given as goal

-- each pair of structures that become one makes the rest smaller; on the way from one pair to the next the parts get smaller
abbrev pub decreases-unite_structures : goal.decreases-unite_structures
decreases-unite_structures l = l.pairs * 4

abbrev pub decreases-unite_bodies : goal.decreases-unite_bodies
decreases-unite_bodies l = l.pairs * 4 + 3

abbrev pub decreases-unite_members : goal.decreases-unite_members
decreases-unite_members l = l.pairs * 4 + 2

abbrev pub decreases-unite_types : goal.decreases-unite_types
decreases-unite_types l = l.pairs * 4 + 1

abbrev pub invariant-unite_members-loop-place : goal.invariant-unite_members-loop-place
invariant-unite_members-loop-place l = record {
  long : length l.stands.numbers.items ≡ length l.fn.stands.numbers.items;
  same : members_united (types_united (united_within l.pairs)) (map plain_member (drop l.place l.members)) (map plain_member (drop l.place l.others)) (represented (plain_types l.types) l.stands.numbers.items)
      ≡ members_united (types_united (united_within l.pairs)) (map plain_member l.members) (map plain_member l.others) (represented (plain_types l.types) l.fn.stands.numbers.items);
}
