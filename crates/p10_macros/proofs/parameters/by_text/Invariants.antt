use Rattle.std.proofs.Common.{◌≤◌, length}
use Rattle.p10_macros.proofs.ByParameter.{HasPlaces}
use Rattle.p10_macros.proofs.Putting.{texts_at}
use Rattle.p10_macros.proofs.parameters.by_text.Given as goal

-- the map has the places of the parameters that were put
abbrev pub invariant-loop-place : goal.invariant-loop-place
invariant-loop-place l = record {
  inside : l.place ≤ length l.params;
  has : HasPlaces l.by_text (texts_at l.params) l.place;
}

abbrev pub decreases-loop-place : goal.decreases-loop-place
decreases-loop-place l = l.place
