-- What a lent cell leaves of a store.
use Rattle.std.specs.Prelude.{Result}
use Rattle.std.specs.Borrow.{LendsIfOk, MutBor, Fml}
use Rattle.p10_int.specs.declared.operators.Stop.{Stop}
use Rattle.p10_meaning.specs.declared.pointers.Ptr.{Ptr}
use Rattle.p10_meaning.specs.declared.pointers.Cell.{Cell}
use Rattle.p10_meaning.specs.Objects.{put_at}
use Rattle.p10_meaning.specs.contracts.pointers.Cell.{the_row as cell_row}
use Rattle.p10_store.specs.contracts.store.Store.{the_row}
use Rattle.p10_store.specs.Stores.{Held}

-- the store with the cell at a pointer set; all other cells stay
abbrev pub with_cell : Held → Ptr → Cell → Held
with_cell store pointer cell = record store { objects = put_at store.objects pointer cell }

-- where the call lends a cell, the store ends with what is left in that cell, and else as it was
abbrev pub LendsCell : MutBor Held → Ptr → Result (MutBor Cell) Stop → Fml
LendsCell store pointer result = LendsIfOk the_row cell_row store result (with_cell store.now pointer) store.now
