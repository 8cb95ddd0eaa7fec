use Rattle.std.proofs.Common.{◌≡◌, ◌++◌, ◌-◌, ◌≤◌, length, drop, map}
use Rattle.p10_core.specs.Views.{plain_variable}
use Rattle.p10_userules.specs.private.Listing.{unchecked_among}
use Rattle.p10_userules.proofs.listing.put_parameters.Given as goal

abbrev pub invariant-loop-place : goal.invariant-loop-place
invariant-loop-place l =
    (l.place ≤ length l.parameters)
    × (l.found.items ++ unchecked_among (map plain_variable (drop l.place l.parameters)) (drop l.place l.spreads) ≡ l.initial.found.items ++ unchecked_among (map plain_variable l.parameters) l.spreads)

abbrev pub decreases-loop-place : goal.decreases-loop-place
decreases-loop-place l = length l.parameters - l.place
