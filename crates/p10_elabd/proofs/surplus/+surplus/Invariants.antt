use Rattle.std.proofs.Common.{◌≡◌, ◌+◌, ◌*◌, Some, map, drop}
use Rattle.p10_syn.specs.Trees.{initializer_row}
use Rattle.p10_syn.specs.BuiltStatements.{initializer_of}
use Rattle.p10_elabx.specs.First.{only_first}
use Rattle.p10_elabd.specs.Initializers.{unplaced_items}
use Rattle.p10_elabd.specs.Views.{told}
use Rattle.p10_elabd.proofs.surplus.+surplus.Given as goal

abbrev pub invariant-unplaced_items-loop-one : goal.invariant-unplaced_items-loop-one
invariant-unplaced_items-loop-one l =
    unplaced_items only_first (told l.place l.standing) (initializer_row (map initializer_of (drop l.one-index l.all)))
    ≡ unplaced_items only_first (told (Some l.fn.at) l.initial.standing) (initializer_row (map initializer_of l.all))

abbrev pub decreases-unplaced : goal.decreases-unplaced
decreases-unplaced l = 4 * goal.size-unplaced l

abbrev pub decreases-unplaced_items : goal.decreases-unplaced_items
decreases-unplaced_items l = 4 * goal.size-unplaced_items l + 1
