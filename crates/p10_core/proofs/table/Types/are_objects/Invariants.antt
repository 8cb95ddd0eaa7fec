use Rattle.std.proofs.Common.{◌≡◌, map, drop}
use Rattle.p10_core.specs.Types.{plain_member}
use Rattle.p10_core.specs.Views.{plain_types}
use Rattle.p10_core.specs.Completing.{are_objects}
use Rattle.p10_core.proofs.table.Types.are_objects.Given as goal

abbrev pub invariant-loop-member : goal.invariant-loop-member
invariant-loop-member l = are_objects (plain_types l.self) (map plain_member (drop l.member-index l.members)) ≡ are_objects (plain_types l.self) (map plain_member l.members)
