-- What holds of the answers.
use Rattle.std.specs.Prelude.{ℕ, ◌≡◌, ◌≢◌, ◌<◌, List, Option, Some, IfSome}
use Rattle.std.specs.List.{All}
use Rattle.p10_base.specs.Words.{Text}
use Rattle.p10_world.specs.Files.{Named}
use Rattle.p10_command.specs.Saying.{Saying}
use Rattle.p10_command.specs.Seen.{Seen, SeenInput}
use Rattle.p10_words.specs.declared.command.Budget.TheVariants.{Certificate}
use Rattle.p10_run_command.specs.declared.command.RunCommand.{RunCommand}
use Rattle.p10_run_command.specs.Answers.{SaysRight}

-- Where files and input are told, only one thing may be said to a command, unless a read fails or memory runs out. So each answer
-- comes exactly where it is right.
abbrev pub SaysOneThing : Type 0
SaysOneThing =
    (run : RunCommand) (seen : Seen) (input : SeenInput) (files : List Named) (bytes : List ℕ) (some other : Saying)
    → seen.held ≡ Some files → input.left ≡ Some bytes
    → SaysRight run seen input some → SaysRight run seen input other
    → some.status ≢ 5 → some.status ≢ 7 → other.status ≢ 5 → other.status ≢ 7
    → some ≡ other

-- an input that tells what it has left tells bytes
abbrev pub TellsBytes : Option (List ℕ) → Type 0
TellsBytes left = IfSome left (λ bytes. All (λ byte. byte < 256) bytes)

-- that no step is left is never said of a run by a certificate: where it is accepted, it bounds every run
abbrev pub CertificatesLeaveSteps : Type 0
CertificatesLeaveSteps =
    (run : RunCommand) (name : Text) (seen : Seen) (input : SeenInput) (saying : Saying)
    → run.budget ≡ Certificate name → TellsBytes input.left
    → SaysRight run seen input saying → saying.status ≢ 12
