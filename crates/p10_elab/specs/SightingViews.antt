-- The objects that a root declares outside of functions, as the code keeps them.
use Rattle.std.specs.Prelude.{List}
use Rattle.p10_elab.specs.declared.outer_object.Sighting.{Sighting}
use Rattle.p10_elab.specs.declared.sightings.Sightings.{Sightings}

-- the objects, in the order in which they are first declared
abbrev pub sightings_in : Sightings → List Sighting
sightings_in s = s.rows.items
