use Rattle.std.proofs.Common.{◌≡◌, ◌+◌, ◌*◌, map, drop}
use Rattle.p10_syn.specs.Trees.{initializer_row}
use Rattle.p10_syn.specs.BuiltStatements.{initializer_of}
use Rattle.p10_elabx.specs.First.{only_first}
use Rattle.p10_elabd.specs.Initializers.{items_passed}
use Rattle.p10_elabd.specs.ItemViews.{plain_items, plain_slots, slots_after}
use Rattle.p10_elabd.specs.Views.{told}
use Rattle.p10_elabd.proofs.initializers.+items.Given as goal

abbrev pub invariant-items_passed-loop-i : goal.invariant-items_passed-loop-i
invariant-items_passed-loop-i l =
    items_passed only_first l.part.life (slots_after l.i (plain_slots l.slots)) l.scalar (told (plain_items l.items) l.standing) (initializer_row (map initializer_of (drop l.i l.all)))
    ≡ items_passed only_first l.part.life (plain_slots l.slots) l.part.scalar (told (plain_items l.initial.items) l.initial.standing) (initializer_row (map initializer_of l.all))

abbrev pub decreases-item_passed : goal.decreases-item_passed
decreases-item_passed l = 4 * goal.size-item_passed l

abbrev pub decreases-list_passed : goal.decreases-list_passed
decreases-list_passed l = 4 * goal.size-list_passed l + 2

abbrev pub decreases-items_passed : goal.decreases-items_passed
decreases-items_passed l = 4 * goal.size-items_passed l + 1
