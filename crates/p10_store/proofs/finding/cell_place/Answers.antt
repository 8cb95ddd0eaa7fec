-- What follows of the place that was found.
use Rattle.std.proofs.Common.{arith, ◌<◌, length, sym, ◌∙◌}
use Rattle.p10_store.proofs.CellsOfPointers.{is_cell, no_cell}
use Rattle.p10_store.proofs.finding.cell_place.Goals as goal

pub prove-unreachable-requires : goal.prove-unreachable-requires
prove-unreachable-requires c =
    let h : c.in-Ok.place < length c.args.cells.now = (is_cell c.args.cells.now c.args.slots.now c.args.pointer c.in-Ok.place c.in-Ok.provenance c.requires.tiled (sym c.place_in.ensures ∙ c.in-Ok.is)).below in
    omega (arith, h, c.if-prove.true)

pub returns-in-Ok : goal.returns-in-Ok
returns-in-Ok c = is_cell c.args.cells.now c.args.slots.now c.args.pointer c.in-Ok.place c.in-Ok.provenance c.requires.tiled (sym c.place_in.ensures ∙ c.in-Ok.is)

pub returns-in-Err : goal.returns-in-Err
returns-in-Err c = no_cell c.args.cells.now c.args.slots.now c.args.pointer c.in-Err.stop c.requires.tiled (sym c.place_in.ensures ∙ c.in-Err.is)
