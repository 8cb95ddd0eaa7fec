-- What comes of it that a value is assumed to be true or false.
use Rattle.std.specs.Prelude.{◌≡◌, Bool, true, false, Option, Some, None}
use Rattle.p10_absx.specs.Environments.{Environment}
use Rattle.p10_absx.specs.Trails.{Branching, with_values}

-- where a state is left, what is known of it then; where none is left, nothing is said of the environment
abbrev pub Assumes : Bool → Option Environment → Branching → Branching → Type 0
Assumes true known before after = (known ≡ Some after.values) × (after ≡ with_values before after.values)
Assumes false known before after = known ≡ None
