-- The lengths and capacities of the lists of a store.
use Rattle.std.proofs.Common.{vec_len, vec_capacity}
use Rattle.std.specs.Prelude.{Vec}
use Rattle.std.specs.declared.alloc.Global.{Global}
use Rattle.p10_meaning.specs.declared.pointers.Cell.{Cell}
use Rattle.p10_store.specs.declared.slots.Slot.{Slot}
use Rattle.p10_store.proofs.ClosedSlots.{Sizes, AreSized}

abbrev pub sizes_of : Vec Cell Global → Vec Slot Global → Sizes
sizes_of cells slots = record { slots = vec_len slots; slot_capacity = vec_capacity slots; cells = vec_len cells; cell_capacity = vec_capacity cells }

pub are_sized : (cells : Vec Cell Global) (slots : Vec Slot Global) → AreSized cells.items slots.items (sizes_of cells slots)
are_sized cells slots = record { slots_are = slots.ok.0; cells_are = cells.ok.0; slot_room = slots.ok.1; cell_room = cells.ok.1 }
