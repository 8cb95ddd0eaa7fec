use Rattle.std.proofs.Common.{◌≡◌, drop}
use Rattle.std.specs.Prelude.{map, slice_get}
use Rattle.p10_core.specs.Types.{plain_member}
use Rattle.p10_core.specs.Sizes.{layout_of, scalars_of_members}
use Rattle.p10_core.specs.Views.{plain_types}
use Rattle.p10_whole.proofs.scalars.member_at_scalar.Given as goal

-- the scalar that is looked for lies in the members that are left
abbrev pub invariant-loop-member : goal.invariant-loop-member
invariant-loop-member l =
    slice_get (scalars_of_members (layout_of (plain_types l.types)) (map plain_member l.members)) l.initial.place
    ≡ slice_get (scalars_of_members (layout_of (plain_types l.types)) (map plain_member (drop l.member-index l.members))) l.place
