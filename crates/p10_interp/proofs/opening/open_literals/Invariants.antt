-- The literals so far were opened.
use Rattle.std.proofs.Common.{◌≡◌, ◌+◌, ◌≤◌, ◌++◌, length, map, take}
use Rattle.p10_core.specs.Views.{plain_literal}
use Rattle.p10_meaning.specs.Opening.{literal_objects}
use Rattle.p10_interp.proofs.opening.open_literals.Given as goal

abbrev pub invariant-loop-place : goal.invariant-loop-place
invariant-loop-place l =
    (l.store.objects ≡ l.initial.store.objects ++ literal_objects l.initial.store.opened (take l.place (map plain_literal l.literals))) × (l.store.opened ≡ l.initial.store.opened + l.place) × (l.place ≤ length l.literals)
