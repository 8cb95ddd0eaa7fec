-- What is right to say to the command `run`.
use Rattle.std.specs.Prelude.{ℕ, ◌≡◌, ◌<◌, ℤ, List, Option, Some, None}
use Rattle.std.specs.List.{All}
use Rattle.p10_base.specs.Gathered.{Gathered}
use Rattle.p10_base.specs.Words.{Text}
use Rattle.p10_core.specs.Typed.{PlainProgram}
use Rattle.p10_expand.specs.Gathering.{Setting, Gathers}
use Rattle.p10_front.specs.Digests.{reading_digests}
use Rattle.p10_expand.specs.Setting.{setting}
use Rattle.p10_meaning.specs.Laws.{Extends}
use Rattle.p10_report.specs.Messages.{absent_line}
use Rattle.p10_run.specs.declared.budget.Budget.{Budget}
use Rattle.p10_run.specs.WholeRuns.{run_with}
use Rattle.p10_words.specs.declared.command.Budget.TheVariants.{Certificate}
use Rattle.p10_command.specs.declared.gathering.Ungathered.{Ungathered}
use Rattle.p10_command.specs.declared.reading.Unread.{Unread}
use Rattle.p10_command.specs.declared.trouble.Trouble.{Trouble}
use Rattle.p10_command.specs.Gathering.{AreUngathered}
use Rattle.p10_command.specs.Reading.{AreUnread}
use Rattle.p10_command.specs.Programs.{HasProgram}
use Rattle.p10_command.specs.Saying.{Saying, line_saying, trouble_line, trouble_saying, trouble_status, ungathered_saying, unread_saying}
use Rattle.p10_command.specs.Seen.{HasCause, Seen, SeenInput}
use Rattle.p10_judge.specs.declared.judgement.Judgement.{Judgement}
use Rattle.p10_judge.specs.declared.judgement.Judgement.TheVariants.{Accepted}
use Rattle.p10_judge.specs.Judging.{IsJudged}
use Rattle.p10_judge.specs.Saying.{judgement_line, judgement_status}
use Rattle.p10_run_command.specs.declared.command.RunCommand.{RunCommand}
use Rattle.p10_run_command.specs.declared.sensors.NoValues.{NoValues}
use Rattle.p10_run_command.specs.Command.{IsPermitted}
use Rattle.p10_run_command.specs.Endings.{ended_saying}
use Rattle.p10_run_command.specs.Files.{HasFiles, IsFirstAbsent}
use Rattle.p10_run_command.specs.Sensors.{HasValues, LacksValues, no_values_saying}

-- the sources of the command are gathered from the files, where they are told
abbrev pub setting_of : Seen → RunCommand → Setting
setting_of seen run = setting seen.held run.sources run.directories

-- the input of a run: what the source had left at first; where it doesn't tell that, some bytes, which are numbers below 256
abbrev pub IsInput : Option (List ℕ) → List ℕ → Type 0
IsInput None bytes = All (λ byte. byte < 256) bytes
IsInput (Some told) bytes = bytes ≡ told

-- a certificate that isn't accepted
abbrev pub IsRefusal : Judgement → Type 0
IsRefusal (Accepted bounds) = ⊥
IsRefusal judgement = Unit {0}

-- what is said where a file that the command names is absent
abbrev pub absent_saying : Text → Saying
absent_saying name = line_saying 9 (absent_line name)

-- what is said where the certificate isn't accepted
abbrev pub refused_saying : Gathered → Judgement → Saying
refused_saying g judgement = line_saying (judgement_status judgement) (judgement_line g judgement)

-- what is said where a read has failed or memory is out while the program runs, after this much of its output
abbrev pub troubled_saying : Trouble → List ℕ → Saying
troubled_saying trouble out = record { status = trouble_status trouble; out = out; err = trouble_line trouble }

-- what is right to say to the command, by what is seen of files and input
pub data SaysRight (run : RunCommand) (seen : Seen) (input : SeenInput) (saying : Saying) : Type 0 where
  -- the sources aren't gathered
  ungathered : (g : Gathered) (why : Ungathered) → AreUngathered (setting_of seen run) g why → saying ≡ ungathered_saying run.sources g why → SaysRight run seen input saying
  -- the sources are gathered, but another file that the command names isn't there
  absent : (g : Gathered) (name : Text) → Gathers (setting_of seen run) g → IsFirstAbsent seen.held run name → saying ≡ absent_saying name → SaysRight run seen input saying
  -- the sources are gathered and the other files are there, but the sources are no program
  unread : (g : Gathered) (why : Unread) → Gathers (setting_of seen run) g → HasFiles seen.held run → AreUnread g why → saying ≡ unread_saying g why → SaysRight run seen input saying
  -- there is a program, but the certificate isn't accepted for it
  refused : (g : Gathered) (p : PlainProgram) (name : Text) (judgement : Judgement) → (has : HasProgram (setting_of seen run) g p) → HasFiles seen.held run → run.budget ≡ Certificate name → IsJudged seen.held name p (reading_digests has.reading).funcs judgement → IsRefusal judgement →
      saying ≡ refused_saying g judgement → SaysRight run seen input saying
  -- the program may run, but the file of sensor values gives none
  without_values : (g : Gathered) (p : PlainProgram) (b : Budget) (why : NoValues) → (has : HasProgram (setting_of seen run) g p) → IsPermitted seen.held run (reading_digests has.reading).funcs p b → LacksValues seen.held run.sensors why →
      saying ≡ no_values_saying why → SaysRight run seen input saying
  -- the program has run, within the budget that the command allows it and with the values of the file
  ended : (g : Gathered) (p : PlainProgram) (b : Budget) (values : List ℤ) (bytes : List ℕ) → (has : HasProgram (setting_of seen run) g p) → IsPermitted seen.held run (reading_digests has.reading).funcs p b → HasValues seen.held run.sensors values → IsInput input.left bytes →
      saying ≡ ended_saying g (run_with p b values bytes) → SaysRight run seen input saying
  -- before the program runs, a read of the files has failed or memory is out
  troubled : (trouble : Trouble) → HasCause trouble seen.faults_before seen.faults_after → saying ≡ trouble_saying trouble → SaysRight run seen input saying
  -- while it runs, a read of the input has failed or memory is out; what was written until then is a prefix of its output
  troubled_run : (g : Gathered) (p : PlainProgram) (b : Budget) (values : List ℤ) (bytes written : List ℕ) (trouble : Trouble) → (has : HasProgram (setting_of seen run) g p) → IsPermitted seen.held run (reading_digests has.reading).funcs p b →
      HasValues seen.held run.sensors values → IsInput input.left bytes →
      Extends written (run_with p b values bytes).output → HasCause trouble input.faults_before input.faults_after →
      saying ≡ troubled_saying trouble written → SaysRight run seen input saying
