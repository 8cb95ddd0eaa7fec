-- Branches of environments: one is opened where a value is assumed to be true or false.
use Rattle.std.specs.Prelude.{◌≡◌, [], Bool, true, false, Option, Some, None}
use Rattle.p10_absx.specs.Environments.{Environment}
use Rattle.p10_absx.specs.Trails.{Branching, branched, with_values}

-- an environment without a branch
abbrev pub unbranched : Environment → Branching
unbranched env = record { values = env; outer = [] }

-- where a state is left, a branch is opened with what is then known; where none is left, none is opened
abbrev pub Enters : Bool → Option Environment → Branching → Branching → Type 0
Enters true known before after = (known ≡ Some after.values) × (after ≡ with_values (branched before) after.values)
Enters false known before after = (known ≡ None) × (after ≡ before)
