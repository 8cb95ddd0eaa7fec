-- The items so far give nothing for the number and for greater ones.
use Rattle.std.proofs.Common.{ℕ, ◌-◌, map, length}
use Rattle.p10_core.specs.Views.{plain_item}
use Rattle.p10_meaning.specs.Values.{Held}
use Rattle.p10_machine.specs.Listing.{ArePassed}
use Rattle.p10_machine.proofs.listed.passed.Given as goal

abbrev pub invariant-passing : goal.invariant-passing
invariant-passing l =
    (look : ℕ → Held) (from : ℕ) → ArePassed l.number (map plain_item l.listed.items.now) look from l.fn.cursor.place l.fn.cursor.slot → ArePassed l.number (map plain_item l.listed.items.now) look from l.place l.slot

abbrev pub decreases-passing : goal.decreases-passing
decreases-passing l = length l.listed.items.now - l.place
