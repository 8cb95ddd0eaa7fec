-- The words that are the command `run`, and how far its run may go.
use Rattle.std.specs.Prelude.{ℕ, ◌≡◌, List, Option}
use Rattle.p10_base.specs.declared.report.Bounds.{Bounds}
use Rattle.p10_base.specs.Words.{Text}
use Rattle.p10_world.specs.Files.{Named}
use Rattle.p10_core.specs.Typed.{PlainProgram}
use Rattle.p10_words.specs.declared.command.Budget as asked
use Rattle.p10_words.specs.declared.command.Budget.TheVariants.{Steps, Certificate}
use Rattle.p10_words.specs.declared.command.Command.TheVariants.{Run}
use Rattle.p10_words.specs.Commands.{IsCommandLine}
use Rattle.p10_run.specs.declared.budget.Budget.{Budget}
use Rattle.p10_run.specs.Budgets.{budget_of_steps, budget_within}
use Rattle.p10_judge.specs.declared.judgement.Judgement.TheVariants.{Accepted}
use Rattle.p10_judge.specs.Judging.{IsJudged}
use Rattle.p10_run_command.specs.declared.command.RunCommand.{RunCommand}

-- the words are this command
abbrev pub IsRunLine : List Text → RunCommand → Type 0
IsRunLine words run = IsCommandLine words (Run run.directories run.budget run.turns run.deny run.sensors run.sources)

-- how far a program whose functions have these digests may run by what was asked for: as many steps before the task loop, and afresh in
-- each turn; or the steps of a certificate's bounds, if it is accepted for the program
abbrev pub Permits : Option (List Named) → asked.Budget → ℕ → ℕ → List (List ℕ) → PlainProgram → Budget → Type 0
Permits held (Steps n) turns denied digests p b = b ≡ budget_of_steps n turns denied
Permits held (Certificate name) turns denied digests p b = (bounds : Bounds) × IsJudged held name p digests (Accepted bounds) × (b ≡ budget_within bounds turns denied)

-- it may run this far by the command
abbrev pub IsPermitted : Option (List Named) → RunCommand → List (List ℕ) → PlainProgram → Budget → Type 0
IsPermitted held run digests p b = Permits held run.budget run.turns run.deny digests p b
