-- The slots outside of what is left have other numbers.
use Rattle.std.proofs.Common.{◌-◌}
use Rattle.p10_store.specs.Places.{IsSearched}
use Rattle.p10_store.proofs.finding.searched_place.Given as goal

abbrev pub invariant-loop-low : goal.invariant-loop-low
invariant-loop-low l = IsSearched l.slots l.number l.low l.high

abbrev pub decreases-loop-low : goal.decreases-loop-low
decreases-loop-low l = l.high - l.low
