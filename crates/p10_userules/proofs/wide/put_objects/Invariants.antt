use Rattle.std.proofs.Common.{◌≡◌, ◌++◌, ◌-◌, ◌≤◌, length, drop, map}
use Rattle.p10_core.specs.Views.{plain_object}
use Rattle.p10_userules.specs.private.Listing.{wide_objects}
use Rattle.p10_userules.proofs.wide.put_objects.Given as goal

abbrev pub invariant-loop-place : goal.invariant-loop-place
invariant-loop-place l =
    (l.place ≤ length l.objects)
    × (l.found.items ++ wide_objects l.functions (map plain_object (drop l.place l.objects)) (drop l.place l.spreads) ≡ l.initial.found.items ++ wide_objects l.functions (map plain_object l.objects) l.spreads)

abbrev pub decreases-loop-place : goal.decreases-loop-place
decreases-loop-place l = length l.objects - l.place
