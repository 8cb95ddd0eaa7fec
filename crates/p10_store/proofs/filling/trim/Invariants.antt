-- What is kept in the end stays the same, and so does the capacity.
use Rattle.std.proofs.Common.{◌≡◌, length, vec_capacity}
use Rattle.p10_store.specs.Places.{AreTrimmed}
use Rattle.p10_store.proofs.filling.trim.Given as goal

abbrev pub invariant-loop-slot : goal.invariant-loop-slot
invariant-loop-slot l =
    AreTrimmed l.fn.cells.items l.fn.slots.items l.cells.items l.slots.items
    × (vec_capacity l.slots ≡ vec_capacity l.fn.slots)
    × (vec_capacity l.cells ≡ vec_capacity l.fn.cells)

abbrev pub decreases-loop-slot : goal.decreases-loop-slot
decreases-loop-slot l = length l.slots.items
