use Rattle.std.proofs.Common.{◌≡◌, ◌++◌, ◌-◌, ◌≤◌, length, drop, map}
use Rattle.p10_core.specs.Views.{plain_object, plain_function}
use Rattle.p10_userules.specs.private.Laid.{AreFunctions}
use Rattle.p10_userules.specs.private.Listing.{listed_in_functions}
use Rattle.p10_userules.proofs.rules.put_functions.Given as goal

abbrev pub invariant-loop-place : goal.invariant-loop-place
invariant-loop-place l =
    (l.place ≤ length l.functions)
    × AreFunctions (map plain_object l.uses.objects.now) l.uses.all.now (map plain_function (drop l.place l.functions)) (drop l.place l.stretches) (drop l.place l.blocks)
    × (l.found.items ++ listed_in_functions (map plain_object l.uses.objects.now) l.uses.spreads.now l.uses.all.now (map plain_function (drop l.place l.functions)) (drop l.place l.stretches) (drop l.place l.blocks)
    ≡ l.initial.found.items ++ listed_in_functions (map plain_object l.uses.objects.now) l.uses.spreads.now l.uses.all.now (map plain_function l.functions) l.stretches l.blocks)

abbrev pub decreases-loop-place : goal.decreases-loop-place
decreases-loop-place l = length l.functions - l.place
