-- The values in the items so far were counted.
use Rattle.std.proofs.Common.{◌≡◌, ◌+◌, ◌≤◌, map, drop}
use Rattle.p10_core.specs.Views.{plain_item}
use Rattle.p10_interp.specs.private.Operations.{count_of_items}
use Rattle.p10_interp.proofs.listed.count_of_items.Given as goal

abbrev pub invariant-loop-place : goal.invariant-loop-place
invariant-loop-place l = (l.count ≤ l.place) × (count_of_items (map plain_item l.items) ≡ l.count + count_of_items (map plain_item (drop l.place l.items)))
