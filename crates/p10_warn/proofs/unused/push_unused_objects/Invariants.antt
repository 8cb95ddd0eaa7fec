use Rattle.std.proofs.Common.{◌≡◌, ◌++◌, map, drop}
use Rattle.p10_core.specs.Views.{plain_object}
use Rattle.p10_warn.specs.private.Listing.{unused_objects}
use Rattle.p10_warn.proofs.unused.push_unused_objects.Given as goal

-- the violations by the objects so far, and by those that are left, are those by all
abbrev pub invariant-loop-number : goal.invariant-loop-number
invariant-loop-number l =
    l.violations.items ++ unused_objects l.named.list.items l.number (map plain_object (drop l.number l.objects)) ≡ l.initial.violations.items ++ unused_objects l.named.list.items 0 (map plain_object l.objects)
