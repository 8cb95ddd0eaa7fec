-- What is left to be written comes to what all comes to, the items so far give nothing for it, and frames stay as they are.
use Rattle.std.proofs.Common.{◌≡◌, map, drop}
use Rattle.p10_core.specs.Types.{plain_type, bare}
use Rattle.p10_core.specs.Sizes.{scalars_of}
use Rattle.p10_core.specs.Views.{plain_types, plain_item}
use Rattle.p10_meaning.specs.Statements.{Frame, fill}
use Rattle.p10_code.specs.Machine.{listed_in}
use Rattle.p10_machine.specs.Listing.{ArePassed}
use Rattle.p10_machine.specs.Views.{Around, slot_of, state_of}
use Rattle.p10_machine.proofs.filling.fill_scalars.Given as goal

abbrev pub invariant-loop-i : goal.invariant-loop-i
invariant-loop-i l = record {
  filled : (io : Around) (frame : Frame) → fill l.place.0 (listed_in l.listed.slot (map plain_item l.listed.items.now) (slot_of l.initial.m)) (scalars_of (plain_types l.types.0.now) (bare (plain_types l.types.0.now) (plain_type l.types.1.now))) 0 l.place.1 frame (state_of l.steps l.initial.m.outside io) ≡
      fill l.place.0 (listed_in l.listed.slot (map plain_item l.listed.items.now) (slot_of l.initial.m)) (drop l.i (scalars_of (plain_types l.types.0.now) (bare (plain_types l.types.0.now) (plain_type l.types.1.now)))) l.i l.place.1 frame (state_of l.left l.m.outside io);
  passed : ArePassed l.i (map plain_item l.listed.items.now) (slot_of l.initial.m) l.listed.slot l.cursor.place l.cursor.slot;
  same : l.m ≡ record l.initial.m { outside = l.m.outside };
}
