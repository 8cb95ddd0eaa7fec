use Rattle.std.proofs.Common.{◌≡◌, ◌-◌, None, map, take, length}
use Rattle.p10_linkage.specs.LinkedViews.{linked_of_name}
use Rattle.p10_linkage.specs.private.Grouping.{rows_at}
use Rattle.p10_linkage.specs.private.Lookups.{last_in_root}
use Rattle.p10_linkage.proofs.linked_names.last_of_root.Given as goal

abbrev pub invariant-loop-back : goal.invariant-loop-back
invariant-loop-back l = last_in_root None l.root (rows_at (take (length l.places - l.back) l.places) (map linked_of_name l.rows)) ≡ last_in_root None l.root (rows_at l.places (map linked_of_name l.rows))
