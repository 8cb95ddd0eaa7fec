-- The first scalar for the number is the first that the items give that weren't looked at yet.
use Rattle.std.proofs.Common.{◌≡◌, map, drop}
use Rattle.p10_core.specs.Views.{plain_item}
use Rattle.p10_code.specs.Machine.{listed_in}
use Rattle.p10_machine.specs.Listing.{first_listed}
use Rattle.p10_machine.specs.Views.{slot_of}
use Rattle.p10_machine.proofs.listed.find_among.Given as goal

abbrev pub invariant-loop-place : goal.invariant-loop-place
invariant-loop-place l =
    first_listed l.number (listed_in l.listed.slot (map plain_item l.items) (slot_of l.m)) ≡ first_listed l.number (listed_in l.slot (map plain_item (drop l.place l.items)) (slot_of l.m))
