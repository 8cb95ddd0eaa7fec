-- The objects so far were opened, and constant expressions are evaluated in the same state.
use Rattle.std.proofs.Common.{◌≡◌, ◌≤◌, length, take}
use Rattle.p10_core.specs.Views.{plain_program}
use Rattle.p10_meaning.specs.Opening.{static_objects, initial_cells}
use Rattle.p10_interp.specs.private.Machines.{state_of}
use Rattle.p10_interp.specs.private.Constants.{nothing_around, IsConstantState}
use Rattle.p10_interp.proofs.opening.opened_store.Given as goal

abbrev pub invariant-loop-number : goal.invariant-loop-number
invariant-loop-number l =
    (l.store.objects ≡ static_objects (λ o. initial_cells (plain_program l.p) o.type o.initializer) 0 (take l.number (plain_program l.p).objects)) × (l.store.opened ≡ l.number) × (l.number ≤ length (plain_program l.p).objects) ×
    IsConstantState (plain_program l.p) (state_of l.outside nothing_around)
