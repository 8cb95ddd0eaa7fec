-- What is right to say to the command `check`.
use Rattle.std.specs.Prelude.{◌≡◌, [], Err}
use Rattle.p10_base.specs.declared.report.Limit.{Limit}
use Rattle.p10_base.specs.Gathered.{Gathered}
use Rattle.p10_expand.specs.Gathering.{Setting, Gathers}
use Rattle.p10_expand.specs.Setting.{setting}
use Rattle.p10_front.specs.Readings.{Reads}
use Rattle.p10_command.specs.declared.gathering.Ungathered.{Ungathered}
use Rattle.p10_command.specs.declared.gathering.Ungathered.TheVariants.{AbsentRoot, Refused, Over}
use Rattle.p10_command.specs.declared.trouble.Trouble.{Trouble}
use Rattle.p10_command.specs.Gathering.{AreUngathered}
use Rattle.p10_command.specs.Saying.{Saying, limit_saying, trouble_saying, ungathered_saying}
use Rattle.p10_command.specs.Seen.{HasCause, Seen}
use Rattle.p10_check_command.specs.declared.command.CheckCommand.{CheckCommand}
use Rattle.p10_check_command.specs.declared.report.Report.{Report}
use Rattle.p10_check_command.specs.Reports.{IsReport, refused_report}
use Rattle.p10_check_command.specs.Texts.{report_status, report_text}

-- the sources of the command are gathered from the files, where they are told
abbrev pub setting_of : Seen → CheckCommand → Setting
setting_of seen check = setting seen.held check.sources check.directories

-- what is said of a report: its text in the form that is asked for, on the output
abbrev pub report_saying : CheckCommand → Gathered → Report → Saying
report_saying check g report = record { status = report_status report; out = report_text check.json g report; err = [] }

-- what is said where the sources aren't gathered: a refusal is reported on the output, and all else on the error output
abbrev pub gathering_saying : CheckCommand → Gathered → Ungathered → Saying
gathering_saying check g (Refused refusal) = report_saying check g (refused_report refusal)
gathering_saying check g (AbsentRoot place) = ungathered_saying check.sources g (AbsentRoot place)
gathering_saying check g (Over limit) = ungathered_saying check.sources g (Over limit)

-- what is right to say to the command, by what is seen of the files
pub data SaysRight (check : CheckCommand) (seen : Seen) (saying : Saying) : Type 0 where
  -- the sources aren't gathered
  ungathered : (g : Gathered) (why : Ungathered) → AreUngathered (setting_of seen check) g why → saying ≡ gathering_saying check g why → SaysRight check seen saying
  -- the sources are gathered, but exceed a limit before a refusal
  passed : (g : Gathered) (limit : Limit) → Gathers (setting_of seen check) g → Reads g (Err limit) → saying ≡ limit_saying limit → SaysRight check seen saying
  -- the sources are gathered, and this is their report
  reported : (g : Gathered) (report : Report) → Gathers (setting_of seen check) g → IsReport g report → saying ≡ report_saying check g report → SaysRight check seen saying
  -- a read has failed or memory is out
  troubled : (trouble : Trouble) → HasCause trouble seen.faults_before seen.faults_after → saying ≡ trouble_saying trouble → SaysRight check seen saying
