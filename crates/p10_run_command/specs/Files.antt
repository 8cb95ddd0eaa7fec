-- The files that a command names besides its sources: a certificate and a file of sensor values, which are looked for in this order.
use Rattle.std.specs.Prelude.{◌≡◌, List, Option, Some}
use Rattle.p10_base.specs.Words.{Text}
use Rattle.p10_world.specs.Files.{Lacks, Named}
use Rattle.p10_words.specs.declared.command.Budget.TheVariants.{Certificate}
use Rattle.p10_command.specs.Loading.{IsHeld}
use Rattle.p10_run_command.specs.declared.command.RunCommand.{RunCommand}

-- where files are told, the certificate is there, if one is named
abbrev pub HasCertificate : Option (List Named) → RunCommand → Type 0
HasCertificate held run = (name : Text) → run.budget ≡ Certificate name → IsHeld held name

-- where files are told, the file of sensor values is there, if one is named
abbrev pub HasSensors : Option (List Named) → RunCommand → Type 0
HasSensors held run = (name : Text) → run.sensors ≡ Some name → IsHeld held name

-- where files are told, both are there, if they are named
pub record HasFiles (held : Option (List Named)) (run : RunCommand) : Type 0 where
  pub certificate : HasCertificate held run
  pub sensors : HasSensors held run

-- the first that isn't there has this name
pub data IsFirstAbsent (held : Option (List Named)) (run : RunCommand) (name : Text) : Type 0 where
  no_certificate : run.budget ≡ Certificate name → Lacks held name → IsFirstAbsent held run name
  no_sensor_file : HasCertificate held run → run.sensors ≡ Some name → Lacks held name → IsFirstAbsent held run name
