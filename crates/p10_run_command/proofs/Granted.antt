-- What a request grants, and what the command allows by it.
use Rattle.std.proofs.Common.{◌≡◌, ℕ, List, refl, sym, ◌∙◌, ap, subst, Option, Vec, Global}
use Rattle.p10_base.specs.declared.digest.Digests.{Digests}
use Rattle.p10_base.specs.Words.{Text}
use Rattle.p10_world.specs.Files.{Named}
use Rattle.p10_core.specs.Typed.{PlainProgram}
use Rattle.p10_judge.specs.declared.judgement.Judgement.{Judgement}
use Rattle.p10_judge.specs.declared.judgement.Judgement.TheVariants.{TooLong, BadCertificate, Stale, Failing, Accepted}
use Rattle.p10_judge.specs.Judging.{IsJudged, IsWeighed}
use Rattle.p10_judge.specs.Loading.{IsHeld, IsLoaded}
use Rattle.p10_judge.proofs.Files.{given_is_held, judged}
use Rattle.p10_run.specs.declared.budget.Budget as run
use Rattle.p10_front.specs.Digests.{PlainDigests, plain_digests}
use Rattle.p10_run.specs.Budgets.{budget_of_steps, budget_within}
use Rattle.p10_words.specs.declared.command.Budget as asked
use Rattle.p10_words.specs.declared.command.Budget.TheVariants as words
use Rattle.p10_run_command.specs.declared.command.RunCommand.{RunCommand}
use Rattle.p10_run_command.specs.declared.granting.Permission.{Permission}
use Rattle.p10_run_command.specs.declared.granting.Permission.TheVariants.{Budget}
use Rattle.p10_run_command.specs.declared.granting.Allowance.{Allowance}
use Rattle.p10_run_command.specs.declared.granting.Allowance.TheVariants.{Steps, Certificate}
use Rattle.p10_run_command.specs.declared.granting.RunRequest.{RunRequest}
use Rattle.p10_run_command.specs.Answers.{IsRefusal}
use Rattle.p10_run_command.specs.Command.{Permits, IsPermitted}
use Rattle.p10_run_command.specs.Files.{HasFiles}
use Rattle.p10_run_command.specs.private.Granting.{Grants, grant_by, IsGranted, IsAllowance, IsRequest, IsRefusedFor}
use Rattle.p10_run_command.proofs.Recorded.{sensors_held}

-- ## What the command allows

allowed_by : (held : Option (List Named)) (budget : asked.Budget) (allowance : Allowance) (turns denied : ℕ) (digests : List (List ℕ)) (p : PlainProgram) (b : run.Budget) → IsAllowance held budget allowance → Grants digests p allowance turns denied b → Permits held budget turns denied digests p b
allowed_by held (words.Steps n) (Steps m) turns denied digests p b is grants = grants ∙ ap (λ (k : ℕ). budget_of_steps k turns denied) is
allowed_by held (words.Certificate name) (Certificate bytes) turns denied digests p b is (bounds, weighed, same) = (bounds, judged held name bytes.items p digests (Accepted bounds) is weighed, same)
allowed_by held (words.Steps n) (Certificate bytes) turns denied digests p b is grants = absurd is
allowed_by held (words.Certificate name) (Steps m) turns denied digests p b is grants = absurd is

pub allowed : (held : Option (List Named)) (command : RunCommand) (request : RunRequest) (digests : List (List ℕ)) (p : PlainProgram) (b : run.Budget) → IsRequest held command request → Grants digests p request.allowance request.turns request.deny b → IsPermitted held command digests p b
allowed held command request digests p b is grants =
    subst (λ (n : ℕ). Permits held command.budget n command.deny digests p b) is.turns
    (subst (λ (n : ℕ). Permits held command.budget request.turns n digests p b) is.deny
    (allowed_by held command.budget request.allowance request.turns request.deny digests p b is.allowance grants))

-- ## What it asks for

-- a certificate was asked for, and isn't accepted
pub record IsRefused (held : Option (List Named)) (budget : asked.Budget) (digests : List (List ℕ)) (p : PlainProgram) (judgement : Judgement) : Type 0 where
  pub name : Text
  pub asked : budget ≡ words.Certificate name
  pub judged : IsJudged held name p digests judgement
  pub refusal : IsRefusal judgement

refused_by : (held : Option (List Named)) (budget : asked.Budget) (allowance : Allowance) (digests : List (List ℕ)) (p : PlainProgram) (judgement : Judgement) → IsAllowance held budget allowance → IsRefusedFor digests p allowance judgement → IsRefused held budget digests p judgement
refused_by held (words.Certificate name) (Certificate bytes) digests p judgement is (weighed, refusal) = record { name = name; asked = refl; judged = judged held name bytes.items p digests judgement is weighed; refusal = refusal }
refused_by held (words.Steps n) (Certificate bytes) digests p judgement is refuses = absurd is
refused_by held budget (Steps m) digests p judgement is refuses = absurd refuses

pub asked_and_refused : (held : Option (List Named)) (command : RunCommand) (request : RunRequest) (digests : List (List ℕ)) (p : PlainProgram) (judgement : Judgement) → IsRequest held command request → IsRefusedFor digests p request.allowance judgement → IsRefused held command.budget digests p judgement
asked_and_refused held command request digests p judgement is refuses = refused_by held command.budget request.allowance digests p judgement is.allowance refuses

pub held_by : (held : Option (List Named)) (budget : asked.Budget) (allowance : Allowance) → IsAllowance held budget allowance → (name : Text) → budget ≡ words.Certificate name → IsHeld held name
held_by held budget (Certificate bytes) is name same =
    let loaded : IsLoaded held name bytes.items = subst (λ (b : asked.Budget). IsAllowance held b (Certificate bytes)) same is in
    given_is_held held name loaded.whole loaded.given
held_by held budget (Steps m) is name same = absurd (subst (λ (b : asked.Budget). IsAllowance held b (Steps m)) same is)

-- the certificate and the file of sensor values that were asked for are there
pub asked_are_held : (held : Option (List Named)) (command : RunCommand) (request : RunRequest) → IsRequest held command request → HasFiles held command
asked_are_held held command request is = record {
  certificate = held_by held command.budget request.allowance is.allowance;
  sensors = sensors_held held command.sensors request.sensors is.sensors;
}

-- ## Grants

-- what is granted is granted by the request
pub grants_of : (digests : List (List ℕ)) (p : PlainProgram) (request : RunRequest) (grant : Permission) (b : run.Budget) → grant ≡ Budget b → IsGranted digests p request grant → Grants digests p request.allowance request.turns request.deny b
grants_of digests p request grant b is granted = subst (λ (g : Permission). IsGranted digests p request g) is granted

-- the grant by what a certificate comes to
by_judgement : (digests : List (List ℕ)) (p : PlainProgram) (request : RunRequest) (bytes : Vec ℕ Global) (j : Judgement) → request.allowance ≡ Certificate bytes → IsWeighed p digests bytes.items j → IsGranted digests p request (grant_by j request.turns request.deny)
by_judgement digests p request bytes TooLong is weighed = subst (λ (a : Allowance). IsRefusedFor digests p a TooLong) (sym is) (weighed, tt)
by_judgement digests p request bytes (BadCertificate line) is weighed = subst (λ (a : Allowance). IsRefusedFor digests p a (BadCertificate line)) (sym is) (weighed, tt)
by_judgement digests p request bytes (Stale at kept found) is weighed = subst (λ (a : Allowance). IsRefusedFor digests p a (Stale at kept found)) (sym is) (weighed, tt)
by_judgement digests p request bytes (Failing k at) is weighed = subst (λ (a : Allowance). IsRefusedFor digests p a (Failing k at)) (sym is) (weighed, tt)
by_judgement digests p request bytes (Accepted bounds) is weighed =
    subst (λ (a : Allowance). Grants digests p a request.turns request.deny (budget_within bounds request.turns request.deny)) (sym is) (bounds, weighed, refl)

pub granted_by : (digests : PlainDigests) (found : Digests) (p : PlainProgram) (request : RunRequest) (bytes : Vec ℕ Global) (slice : List ℕ) (j : Judgement) (grant : Permission) → request.allowance ≡ Certificate bytes → slice ≡ bytes.items → plain_digests found ≡ digests
    → IsWeighed p (plain_digests found).funcs slice j → grant ≡ grant_by j request.turns request.deny → IsGranted digests.funcs p request grant
granted_by digests found p request bytes slice j grant is same words weighed by =
    subst (IsGranted digests.funcs p request) (sym by)
    (by_judgement digests.funcs p request bytes j is (subst (λ (b : List ℕ). IsWeighed p digests.funcs b j) same (subst (λ (d : PlainDigests). IsWeighed p d.funcs slice j) words weighed)))
