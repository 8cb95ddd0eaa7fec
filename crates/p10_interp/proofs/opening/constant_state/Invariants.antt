-- The objects so far were opened.
use Rattle.std.proofs.Common.{◌≡◌, ◌≤◌, length, take}
use Rattle.p10_core.specs.Views.{plain_program}
use Rattle.p10_meaning.specs.Scalars.{zero_cells}
use Rattle.p10_meaning.specs.Values.{scalars}
use Rattle.p10_meaning.specs.Opening.{static_objects}
use Rattle.p10_interp.proofs.opening.constant_state.Given as goal

abbrev pub invariant-loop-number : goal.invariant-loop-number
invariant-loop-number l =
    (l.store.objects ≡ static_objects (λ o. zero_cells (scalars (plain_program l.p) o.type)) 0 (take l.number (plain_program l.p).objects)) × (l.store.opened ≡ l.number) × (l.number ≤ length (plain_program l.p).objects)
