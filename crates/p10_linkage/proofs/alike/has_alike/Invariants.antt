use Rattle.std.proofs.Common.{◌≡◌, map, drop}
use Rattle.p10_linkage.specs.LinkedViews.{linked_of_name}
use Rattle.p10_linkage.specs.private.Covering.{has_alike}
use Rattle.p10_linkage.specs.private.Grouping.{rows_at}
use Rattle.p10_linkage.proofs.alike.has_alike.Given as goal

abbrev pub invariant-loop-place : goal.invariant-loop-place
invariant-loop-place l = has_alike l.stands (rows_at (drop l.place-index l.places) (map linked_of_name l.linked)) (linked_of_name l.now)
    ≡ has_alike l.stands (rows_at l.places (map linked_of_name l.linked)) (linked_of_name l.now)
