-- What may be said to a command line: the status of the program, and the texts on its two outputs.
use Rattle.std.specs.Prelude.{◌≡◌, List, []}
use Rattle.p10_base.specs.Words.{Text}
use Rattle.p10_command.specs.Saying.{Saying}
use Rattle.p10_command.specs.Seen.{Seen, SeenInput}
use Rattle.p10_report.specs.Messages.{out_of_memory_line, usage_line}
use Rattle.p10_words.specs.declared.command.Command.{Command}
use Rattle.p10_words.specs.declared.command.Command.TheVariants.{Check, Derive, Migrate, Verify, Recheck, Run, Generate}
use Rattle.p10_words.specs.Commands.{IsCommandLine}
use Rattle.p10_check_command.specs.Answers as check
use Rattle.p10_derive_command.specs.Answers as derive
use Rattle.p10_gen_command.specs.Told as gen
use Rattle.p10_migrate_command.specs.Told as migrate
use Rattle.p10_recheck_command.specs.Told as recheck
use Rattle.p10_run_command.specs.Answers as run
use Rattle.p10_verify_command.specs.Told as verify
use Rattle.p10_top.specs.Commands.{IsNoCommand}

-- what is said where the words are no command
abbrev pub usage_saying : Saying
usage_saying = record { status = 2; out = []; err = usage_line }

-- what is said where memory is out before the command is known
abbrev pub memory_saying : Saying
memory_saying = record { status = 7; out = []; err = out_of_memory_line }

-- what is right to say to a command, by what is seen of files and input
abbrev pub SaysFor : Command → Seen → SeenInput → Saying → Type 0
SaysFor (Check directories json sources) seen input saying = check.SaysRight (record { directories = directories; json = json; sources = sources }) seen saying
SaysFor (Derive directories version diff sources) seen input saying = derive.SaysRight (record { directories = directories; version = version; diff = diff; sources = sources }) seen saying
SaysFor (Migrate directories certificate sources) seen input saying = migrate.SaysRight (record { directories = directories; certificate = certificate; sources = sources }) seen saying
SaysFor (Verify directories clean certificate sources) seen input saying = verify.SaysRight (record { directories = directories; clean = clean; certificate = certificate; sources = sources }) seen saying
SaysFor (Recheck directories old certificate sources) seen input saying = recheck.SaysRight (record { directories = directories; since = old; certificate = certificate; sources = sources }) seen saying
SaysFor (Run directories budget turns deny sensors sources) seen input saying = run.SaysRight (record { directories = directories; budget = budget; turns = turns; deny = deny; sensors = sensors; sources = sources }) seen input saying
SaysFor (Generate functions) seen input saying = gen.SaysRight functions saying

-- what may be said to a command line; running out of memory may come at any
pub data MaySay (words : List Text) (seen : Seen) (input : SeenInput) (saying : Saying) : Type 0 where
  for_none : IsNoCommand words → saying ≡ usage_saying → MaySay words seen input saying
  for_command : (command : Command) → IsCommandLine words command → SaysFor command seen input saying → MaySay words seen input saying
  for_any : saying ≡ memory_saying → MaySay words seen input saying
