-- What holds of the answers.
use Rattle.p10_command.specs.Laws.{OneIsRight}
use Rattle.p10_recheck_command.specs.declared.command.RecheckCommand.{RecheckCommand}
use Rattle.p10_recheck_command.specs.Told.{SaysRight}

-- where files are told, only one thing is right to say to a command, unless a read fails or memory runs out
abbrev pub RecheckSaysOneThing : Type 0
RecheckSaysOneThing = (r : RecheckCommand) → OneIsRight (SaysRight r)
