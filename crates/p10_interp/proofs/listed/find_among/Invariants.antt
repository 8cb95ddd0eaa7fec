-- The first scalar for the number is the first that the items give that weren't looked at yet.
use Rattle.std.proofs.Common.{◌≡◌, ◌≤◌, map, drop}
use Rattle.p10_core.specs.Views.{plain_item}
use Rattle.p10_interp.specs.private.Operations.{scalars_of_items}
use Rattle.p10_interp.specs.private.Listing.{first_listed}
use Rattle.p10_interp.proofs.listed.find_among.Given as goal

abbrev pub invariant-loop-place : goal.invariant-loop-place
invariant-loop-place l =
    (l.used ≤ l.place) ×
    (first_listed l.number (scalars_of_items (map plain_item l.items) l.listed.values.now) ≡ first_listed l.number (scalars_of_items (map plain_item (drop l.place l.items)) (drop l.used l.listed.values.now)))
