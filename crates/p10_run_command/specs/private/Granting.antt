-- What a run is asked for, once the certificate's file was loaded, and what it is granted.
use Rattle.std.specs.Prelude.{ℕ, ◌≡◌, List, Option, Some, None}
use Rattle.p10_base.specs.declared.report.Bounds.{Bounds}
use Rattle.p10_base.specs.Words.{Text}
use Rattle.p10_world.specs.Files.{Named}
use Rattle.p10_core.specs.Typed.{PlainProgram}
use Rattle.p10_command.specs.Loading as files
use Rattle.p10_judge.specs.declared.judgement.Judgement.{Judgement}
use Rattle.p10_judge.specs.declared.judgement.Judgement.TheVariants.{TooLong, BadCertificate, Stale, Failing, Accepted}
use Rattle.p10_judge.specs.Judging.{IsWeighed}
use Rattle.p10_judge.specs.Loading.{IsLoaded}
use Rattle.p10_run.specs.declared.budget.Budget as run
use Rattle.p10_run.specs.Budgets.{budget_of_steps, budget_within}
use Rattle.p10_words.specs.declared.command.Budget as asked
use Rattle.p10_words.specs.declared.command.Budget.TheVariants as words
use Rattle.p10_run_command.specs.declared.command.RunCommand.{RunCommand}
use Rattle.p10_run_command.specs.declared.granting.Permission.{Permission}
use Rattle.p10_run_command.specs.declared.granting.Permission.TheVariants.{Budget, Refused}
use Rattle.p10_run_command.specs.declared.granting.Allowance.{Allowance}
use Rattle.p10_run_command.specs.declared.granting.Allowance.TheVariants.{Steps, Certificate}
use Rattle.p10_run_command.specs.declared.granting.RunRequest.{RunRequest}
use Rattle.p10_run_command.specs.Answers.{IsRefusal}
use Rattle.p10_run_command.specs.Sensors.{sensor_limit}

-- ## Requests

-- a run is allowed what was asked for: a number of steps, or bytes that were loaded of the certificate's file
abbrev pub IsAllowance : Option (List Named) → asked.Budget → Allowance → Type 0
IsAllowance held (words.Steps n) (Steps m) = m ≡ n
IsAllowance held (words.Certificate name) (Certificate bytes) = IsLoaded held name bytes.items
IsAllowance held budget allowance = ⊥

-- the bytes that were loaded of the file of sensor values, where one is named
abbrev pub IsSensorFile : Option (List Named) → Option Text → Option (List ℕ) → Type 0
IsSensorFile held None None = Unit {0}
IsSensorFile held (Some name) (Some bytes) = files.IsLoaded held name sensor_limit bytes
IsSensorFile held sensors file = ⊥

-- the request is that of a command
pub record IsRequest (held : Option (List Named)) (command : RunCommand) (request : RunRequest) : Type 0 where
  pub allowance : IsAllowance held command.budget request.allowance
  pub turns : request.turns ≡ command.turns
  pub deny : request.deny ≡ command.deny
  pub sensors : IsSensorFile held command.sensors request.sensors

-- what a command asks of its run, by what bounds it and the bytes of the file of sensor values
abbrev pub requested : RunCommand → Allowance → Option (List ℕ) → RunRequest
requested command allowance sensors = record { allowance = allowance; turns = command.turns; deny = command.deny; sensors = sensors }

-- ## Grants

-- the budget by an allowance, for a program whose functions have these digests
abbrev pub Grants : List (List ℕ) → PlainProgram → Allowance → ℕ → ℕ → run.Budget → Type 0
Grants digests p (Steps n) turns denied b = b ≡ budget_of_steps n turns denied
Grants digests p (Certificate bytes) turns denied b = (bounds : Bounds) × IsWeighed p digests bytes.items (Accepted bounds) × (b ≡ budget_within bounds turns denied)

-- an allowance is refused for a program: it is a certificate that comes to this
abbrev pub IsRefusedFor : List (List ℕ) → PlainProgram → Allowance → Judgement → Type 0
IsRefusedFor digests p (Steps n) judgement = ⊥
IsRefusedFor digests p (Certificate bytes) judgement = IsWeighed p digests bytes.items judgement × IsRefusal judgement

-- what a program is granted by a request
abbrev pub IsGranted : List (List ℕ) → PlainProgram → RunRequest → Permission → Type 0
IsGranted digests p request (Budget b) = Grants digests p request.allowance request.turns request.deny b
IsGranted digests p request (Refused judgement) = IsRefusedFor digests p request.allowance judgement

-- the grant by what the certificate comes to
abbrev pub grant_by : Judgement → ℕ → ℕ → Permission
grant_by (Accepted bounds) turns denied = Budget (budget_within bounds turns denied)
grant_by TooLong turns denied = Refused TooLong
grant_by (BadCertificate line) turns denied = Refused (BadCertificate line)
grant_by (Stale at kept found) turns denied = Refused (Stale at kept found)
grant_by (Failing k at) turns denied = Refused (Failing k at)
