-- What stands for a variable in the code, as definitions speak of it.
use Rattle.p10_meaning.specs.Values.{Held, holds, stands, absent}
use Rattle.p10_interp.specs.declared.held.Held.{Held as Standing}
use Rattle.p10_interp.specs.declared.held.Held.TheVariants.{Holds, Stands, Absent}

-- what stands for a variable
abbrev pub held_of : Standing → Held
held_of (Holds cell) = holds cell
held_of (Stands object) = stands object
held_of Absent = absent
