use Rattle.std.proofs.Common.{◌≡◌, ◌++◌, drop, map}
use Rattle.p10_core.specs.Views.{plain_item}
use Rattle.p10_userules.specs.Occurrences.{occurrences_in_items}
use Rattle.p10_userules.proofs.occurrences.put_items.Given as goal

abbrev pub invariant-loop-item : goal.invariant-loop-item
invariant-loop-item l =
    l.out.items ++ occurrences_in_items (map plain_item (drop l.item-index l.all)) ≡ l.fn.out.items ++ occurrences_in_items (map plain_item l.all)
