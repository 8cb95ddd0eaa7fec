-- The items so far give nothing for the number and for greater ones.
use Rattle.std.proofs.Common.{◌-◌, map, length}
use Rattle.p10_core.specs.Views.{plain_item}
use Rattle.p10_interp.specs.private.Listing.{IsListedFrom}
use Rattle.p10_interp.proofs.listed.passed.Given as goal

abbrev pub decreases-loop-next : goal.decreases-loop-next
decreases-loop-next l = length (map plain_item l.listed.items.now) - l.place

abbrev pub invariant-loop-next : goal.invariant-loop-next
invariant-loop-next l = IsListedFrom l.number (map plain_item l.listed.items.now) l.listed.values.now l.listed.ordered l.place l.used
