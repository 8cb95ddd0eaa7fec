-- The command lines of `p10`.
use Rattle.std.specs.Prelude.{ℕ, Bool, ◌≡◌, List, []}
use Rattle.p10_base.specs.Words.{Text}
use Rattle.p10_words.specs.declared.command.Budget.TheVariants.{Certificate}
use Rattle.p10_words.specs.declared.command.Command.{Command}
use Rattle.p10_words.specs.declared.command.Command.TheVariants.{Check, Derive, Migrate, Verify, Recheck, Run, Generate}
use Rattle.p10_words.specs.Commands.{IsCommandLine}
use Rattle.p10_run_command.specs.declared.command.RunCommand.{RunCommand}
use Rattle.p10_run_command.specs.Command.{IsRunLine}
use Rattle.p10_verify_command.specs.Names.{Names}

-- the words are the command `derive` with these directories of included files, this version of a certificate's text, with ranks or
-- without, and these sources
abbrev pub IsDeriveLine : List Text → List Text → ℕ → Bool → List Text → Type 0
IsDeriveLine words directories version diff sources = IsCommandLine words (Derive directories version diff sources)

-- the words are the command `verify` with these names
abbrev pub IsVerifyLine : List Text → Names → Type 0
IsVerifyLine words names = IsCommandLine words (Verify names.directories names.clean names.certificate names.sources)

-- the words are no `run`
abbrev pub IsNoRunLine : List Text → Type 0
IsNoRunLine words = (run : RunCommand) → IsRunLine words run → ⊥

-- the words are a `run` by the certificate with this name
pub record IsCertifiedRunLine (words : List Text) : Type 0 where
  pub run : RunCommand
  pub name : Text
  pub line : IsRunLine words run
  pub by : run.budget ≡ Certificate name

-- the words are no command
abbrev pub IsNoCommand : List Text → Type 0
IsNoCommand words = (command : Command) → IsCommandLine words command → ⊥

-- the sources of a command
abbrev pub sources_of : Command → List Text
sources_of (Check directories json sources) = sources
sources_of (Derive directories version diff sources) = sources
sources_of (Migrate directories certificate sources) = sources
sources_of (Verify directories clean certificate sources) = sources
sources_of (Recheck directories old certificate sources) = sources
sources_of (Run directories budget turns deny sensors sources) = sources
sources_of (Generate functions) = []

-- the most turns that a command asks for
abbrev pub turns_asked : Command → ℕ
turns_asked (Check directories json sources) = 0
turns_asked (Derive directories version diff sources) = 0
turns_asked (Migrate directories certificate sources) = 0
turns_asked (Verify directories clean certificate sources) = 0
turns_asked (Recheck directories old certificate sources) = 0
turns_asked (Run directories budget turns deny sensors sources) = turns
turns_asked (Generate functions) = 0

-- a command that isn't `run`
abbrev pub IsNoRun : Command → Type 0
IsNoRun (Check directories json sources) = Unit {0}
IsNoRun (Derive directories version diff sources) = Unit {0}
IsNoRun (Migrate directories certificate sources) = Unit {0}
IsNoRun (Verify directories clean certificate sources) = Unit {0}
IsNoRun (Recheck directories old certificate sources) = Unit {0}
IsNoRun (Run directories budget turns deny sensors sources) = ⊥
IsNoRun (Generate functions) = Unit {0}
