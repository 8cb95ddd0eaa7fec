-- The values of sensors of a run, by the file that the command names.
use Rattle.std.specs.Prelude.{◌≡◌, ℕ, ◌<◌, ◌≤◌, ℤ, List, [], length, Option, Some, None}
use Rattle.p10_base.specs.declared.report.Limit.{Limit}
use Rattle.p10_base.specs.Words.{Text}
use Rattle.p10_world.specs.Files.{Named}
use Rattle.p10_sensors.specs.Texts.{IsTextOf, IsFirstOther}
use Rattle.p10_report.specs.Lines.{limit_line}
use Rattle.p10_report.specs.Messages.{bad_sensors_line}
use Rattle.p10_command.specs.Loading.{Gives}
use Rattle.p10_command.specs.Saying.{Saying, line_saying}
use Rattle.p10_run_command.specs.declared.sensors.NoValues.{NoValues}
use Rattle.p10_run_command.specs.declared.sensors.NoValues.TheVariants.{TooLong, OtherLine}

-- ## The file

-- the most bytes of a file of sensor values
abbrev pub sensor_limit : ℕ
sensor_limit = 8388608

-- bytes within the limit are the text of these values
pub record HoldsValues (bytes : List ℕ) (values : List ℤ) : Type 0 where
  pub short : length bytes ≤ sensor_limit
  pub text : IsTextOf bytes values

-- bytes within the limit are no text of values: the line with this number is the first of another form
pub record HoldsOther (bytes : List ℕ) (line : ℕ) : Type 0 where
  pub short : length bytes ≤ sensor_limit
  pub other : IsFirstOther bytes line

-- bytes give no values, for this reason
abbrev pub HoldsNone : List ℕ → NoValues → Type 0
HoldsNone bytes TooLong = sensor_limit < length bytes
HoldsNone bytes (OtherLine line) = HoldsOther bytes line

-- ## The values

-- the values of a run: those of the file, or none where no file is named
abbrev pub HasValues : Option (List Named) → Option Text → List ℤ → Type 0
HasValues held None values = values ≡ []
HasValues held (Some name) values = (bytes : List ℕ) × Gives held name bytes × HoldsValues bytes values

-- a file is named and gives no values, for this reason
abbrev pub LacksValues : Option (List Named) → Option Text → NoValues → Type 0
LacksValues held None why = ⊥
LacksValues held (Some name) why = (bytes : List ℕ) × Gives held name bytes × HoldsNone bytes why

-- ## What is said where there are none

-- M11
abbrev pub sensor_bytes : Limit
sensor_bytes = record { number = 11 }

abbrev pub no_values_status : NoValues → ℕ
no_values_status TooLong = 8
no_values_status (OtherLine line) = 13

abbrev pub no_values_line : NoValues → List ℕ
no_values_line TooLong = limit_line sensor_bytes
no_values_line (OtherLine line) = bad_sensors_line line

abbrev pub no_values_saying : NoValues → Saying
no_values_saying why = line_saying (no_values_status why) (no_values_line why)
