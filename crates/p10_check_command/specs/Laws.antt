-- What holds of reports and answers.
use Rattle.std.specs.Prelude.{◌≡◌}
use Rattle.p10_base.specs.Gathered.{Gathered}
use Rattle.p10_command.specs.Laws.{OneIsRight}
use Rattle.p10_check_command.specs.declared.command.CheckCommand.{CheckCommand}
use Rattle.p10_check_command.specs.declared.report.Report.{Report}
use Rattle.p10_check_command.specs.Answers.{SaysRight}
use Rattle.p10_check_command.specs.Reports.{IsReport}

-- gathered files have one report at most
abbrev pub OneReport : Type 0
OneReport = (g : Gathered) (this that : Report) → IsReport g this → IsReport g that → this ≡ that

-- where files are told, only one thing is right to say to a command, unless a read fails or memory runs out
abbrev pub CheckSaysOneThing : Type 0
CheckSaysOneThing = (check : CheckCommand) → OneIsRight (SaysRight check)
