use Rattle.std.proofs.Common.{drop}
use Rattle.std.specs.Prelude.{map}
use Rattle.p10_core.specs.Types.{plain_type}
use Rattle.p10_core.specs.Sizes.{scalars_of}
use Rattle.p10_core.specs.Views.{plain_types, plain_item}
use Rattle.p10_core.specs.WholePrograms.{AreWholeItems}
use Rattle.p10_whole.specs.private.Surroundings.{surroundings_in}
use Rattle.p10_whole.proofs.items.are_whole_items.Given as goal

-- those that are left are whole, so that all are
abbrev pub invariant-loop-item : goal.invariant-loop-item
invariant-loop-item l =
    AreWholeItems (surroundings_in l.around) (scalars_of (plain_types l.around.program.now.types) (plain_type l.t)) l.from (map plain_item (drop l.item-index l.items))
    → AreWholeItems (surroundings_in l.around) (scalars_of (plain_types l.around.program.now.types) (plain_type l.t)) 0 (map plain_item l.items)
