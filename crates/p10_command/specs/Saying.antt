-- What is said: the status of the program, and the texts on its two outputs.
use Rattle.std.specs.Prelude.{◌≡◌, ℕ, List, [], slice_index_or}
use Rattle.p10_base.specs.declared.report.Limit.{Limit}
use Rattle.p10_base.specs.Gathered.{Gathered}
use Rattle.p10_base.specs.Words.{Text}
use Rattle.p10_report.specs.Lines.{limit_line, refusal_line}
use Rattle.p10_report.specs.Messages.{absent_line, out_of_memory_line, read_fault_line}
use Rattle.p10_command.specs.declared.gathering.Ungathered.{Ungathered}
use Rattle.p10_command.specs.declared.gathering.Ungathered.TheVariants as gathering
use Rattle.p10_command.specs.declared.reading.Unread.{Unread}
use Rattle.p10_command.specs.declared.reading.Unread.TheVariants as reading
use Rattle.p10_command.specs.declared.trouble.Trouble.{Trouble}
use Rattle.p10_command.specs.declared.trouble.Trouble.TheVariants.{Read, Memory}

-- a status and two texts
pub record Saying : Type 0 where
  pub status : ℕ
  pub out : List ℕ
  pub err : List ℕ

-- the status where sources aren't gathered
abbrev pub ungathered_status : Ungathered → ℕ
ungathered_status (gathering.AbsentRoot place) = 9
ungathered_status (gathering.Refused refusal) = 3
ungathered_status (gathering.Over limit) = 8

-- the line where sources aren't gathered: the names of the roots are these, and a refusal lies in these files
abbrev pub ungathered_line : List Text → Gathered → Ungathered → List ℕ
ungathered_line roots g (gathering.AbsentRoot place) = absent_line (slice_index_or roots place [])
ungathered_line roots g (gathering.Refused refusal) = refusal_line g refusal
ungathered_line roots g (gathering.Over limit) = limit_line limit

-- the status where gathered sources are no program
abbrev pub unread_status : Unread → ℕ
unread_status (reading.Refused refusal) = 3
unread_status (reading.Over limit) = 8

-- the line where gathered sources are no program
abbrev pub unread_line : Gathered → Unread → List ℕ
unread_line g (reading.Refused refusal) = refusal_line g refusal
unread_line g (reading.Over limit) = limit_line limit

-- the status where a read failed, or memory is out
abbrev pub trouble_status : Trouble → ℕ
trouble_status Read = 5
trouble_status Memory = 7

-- the line where a read failed, or memory is out
abbrev pub trouble_line : Trouble → List ℕ
trouble_line Read = read_fault_line
trouble_line Memory = out_of_memory_line

-- what is said with a text on the output alone
abbrev pub text_saying : List ℕ → Saying
text_saying text = record { status = 0; out = text; err = [] }

-- this alone is said
abbrev pub IsSaid : Saying → Saying → Type 0
IsSaid wanted saying = saying ≡ wanted

-- ## What is said on the error output alone

-- what is said with a status and a line alone
abbrev pub line_saying : ℕ → List ℕ → Saying
line_saying status line = record { status = status; out = []; err = line }

-- what is said where the sources aren't gathered: the names of the roots are these, and a refusal lies in these files
abbrev pub ungathered_saying : List Text → Gathered → Ungathered → Saying
ungathered_saying roots g why = line_saying (ungathered_status why) (ungathered_line roots g why)

-- what is said where gathered sources are no program
abbrev pub unread_saying : Gathered → Unread → Saying
unread_saying g why = line_saying (unread_status why) (unread_line g why)

-- what is said where a limit is exceeded
abbrev pub limit_saying : Limit → Saying
limit_saying limit = line_saying 8 (limit_line limit)

-- what is said where a read failed, or memory is out
abbrev pub trouble_saying : Trouble → Saying
trouble_saying trouble = line_saying (trouble_status trouble) (trouble_line trouble)
