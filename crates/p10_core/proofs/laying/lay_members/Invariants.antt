use Rattle.std.proofs.Common.{◌≡◌, true, map, drop}
use Rattle.p10_core.specs.Types.{plain_member}
use Rattle.p10_core.specs.Views.{plain_types}
use Rattle.p10_core.specs.Sizes.{layout_of}
use Rattle.p10_core.specs.Completing.{are_objects}
use Rattle.p10_core.specs.private.Partials.{no_members, with_members, partial_of, IsSmall}
use Rattle.p10_core.proofs.laying.lay_members.Given as goal

abbrev pub invariant-loop-member : goal.invariant-loop-member
invariant-loop-member l = record {
  together : with_members (layout_of (plain_types l.types)) (partial_of l.lay) (map plain_member (drop l.member-index l.members)) ≡ with_members (layout_of (plain_types l.types)) no_members (map plain_member l.members);
  small : IsSmall (partial_of l.lay);
  objects : are_objects (plain_types l.types) (map plain_member (drop l.member-index l.members)) ≡ true;
}
