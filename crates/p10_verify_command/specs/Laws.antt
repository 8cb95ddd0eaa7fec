-- What holds of the answers.
use Rattle.std.specs.Prelude.{ℕ, ◌≡◌, ◌≢◌, List, Some}
use Rattle.p10_world.specs.Files.{Named}
use Rattle.p10_command.specs.Saying.{Saying}
use Rattle.p10_verify_command.specs.Names.{Names}
use Rattle.p10_verify_command.specs.Told.{SaysRight}

-- where files are told, only one thing is right to say to `verify` with these names, unless a read fails or memory runs out
abbrev pub VerifySaysOneThing : Type 0
VerifySaysOneThing =
    (names : Names) (files : List Named) (before after : ℕ) (some other : Saying)
    → SaysRight names (record { held = Some files; faults_before = before; faults_after = after }) some
    → SaysRight names (record { held = Some files; faults_before = before; faults_after = after }) other
    → some.status ≢ 5 → some.status ≢ 7 → other.status ≢ 5 → other.status ≢ 7
    → some ≡ other
