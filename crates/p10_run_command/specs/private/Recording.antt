-- What the files that a command names come to, once they were loaded.
use Rattle.std.specs.Prelude.{◌≡◌, ℕ, ℤ, List, [], Option, Some, None}
use Rattle.p10_world.specs.Files.{Named}
use Rattle.p10_run_command.specs.declared.command.RunCommand.{RunCommand}
use Rattle.p10_run_command.specs.declared.loading.Loaded.{Loaded}
use Rattle.p10_run_command.specs.declared.loading.Loaded.TheVariants.{Request, Absent}
use Rattle.p10_run_command.specs.declared.sensors.NoValues.{NoValues}
use Rattle.p10_run_command.specs.declared.sensors.Recorded.{Recorded}
use Rattle.p10_run_command.specs.declared.sensors.Recorded.TheVariants.{Values, Nothing}
use Rattle.p10_run_command.specs.Files.{IsFirstAbsent}
use Rattle.p10_run_command.specs.Sensors.{HoldsValues, HoldsNone}
use Rattle.p10_run_command.specs.private.Granting.{IsRequest}

-- what is asked of the run, or the first file that isn't there
abbrev pub AreLoaded : Option (List Named) → RunCommand → Loaded → Type 0
AreLoaded held command (Request request) = IsRequest held command request
AreLoaded held command (Absent name) = IsFirstAbsent held command name.now

-- ## Values

-- the values of a file of which these bytes were loaded; none where none is named
abbrev pub GivesValues : Option (List ℕ) → List ℤ → Type 0
GivesValues None values = values ≡ []
GivesValues (Some bytes) values = HoldsValues bytes values

-- it gives none, for this reason
abbrev pub GivesNone : Option (List ℕ) → NoValues → Type 0
GivesNone None why = ⊥
GivesNone (Some bytes) why = HoldsNone bytes why

-- what bytes of the file come to
abbrev pub IsRecordedIn : List ℕ → Recorded → Type 0
IsRecordedIn bytes (Values values) = HoldsValues bytes values.items
IsRecordedIn bytes (Nothing why) = HoldsNone bytes why

abbrev pub IsRecorded : Option (List ℕ) → Recorded → Type 0
IsRecorded file (Values values) = GivesValues file values.items
IsRecorded file (Nothing why) = GivesNone file why
