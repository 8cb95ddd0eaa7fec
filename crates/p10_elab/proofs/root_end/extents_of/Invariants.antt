use Rattle.std.proofs.Common.{◌≡◌, ◌++◌, drop}
use Rattle.p10_elab.specs.RootEnds.{extents_of}
use Rattle.p10_elab.proofs.root_end.extents_of.Given as goal

abbrev pub invariant-loop-sighting : goal.invariant-loop-sighting
invariant-loop-sighting l = l.extents.items ++ extents_of l.to (drop l.sighting-index l.sightings) ≡ extents_of l.to l.sightings
