-- The file of a certificate.
use Rattle.std.specs.Prelude.{ℕ, List, Option}
use Rattle.p10_base.specs.declared.report.TheConstants.Limit.{MOST_CERTIFICATE_BYTES}
use Rattle.p10_world.specs.Files.{Named}
use Rattle.p10_command.specs.Loading as files
pub use Rattle.p10_command.specs.Loading.{Gives, IsHeld}

-- the most bytes of a certificate
abbrev pub certificate_limit : ℕ
certificate_limit = MOST_CERTIFICATE_BYTES

-- these bytes were loaded of the file of that name: all of it where it is within the limit, else one byte more than the limit
abbrev pub IsLoaded : Option (List Named) → List ℕ → List ℕ → Type 0
IsLoaded held name bytes = files.IsLoaded held name certificate_limit bytes
