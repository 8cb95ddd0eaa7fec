-- The items are in order where those that are left are.
use Rattle.std.proofs.Common.{map, drop}
use Rattle.p10_core.specs.Views.{plain_item}
use Rattle.p10_machine.specs.Listing.{InOrder}
use Rattle.p10_machine.proofs.listed.are_in_order.Given as goal

abbrev pub invariant-loop-place : goal.invariant-loop-place
invariant-loop-place l = InOrder l.from (map plain_item (drop l.place l.items)) → InOrder 0 (map plain_item l.items)
