-- What is said for an answer: the status of the program, and the texts on its two outputs.
use Rattle.std.specs.Prelude.{ℕ, ◌≡◌, List, []}
use Rattle.p10_base.specs.Gathered.{Gathered}
use Rattle.p10_report.specs.Lines.{clean_line, unclean_line}
use Rattle.p10_report.specs.Messages.{absent_line}
use Rattle.p10_command.specs.Saying.{Saying, ungathered_line, ungathered_status, unread_line, unread_status, trouble_line, trouble_status}
use Rattle.p10_command.specs.Seen.{Seen}
use Rattle.p10_judge.specs.declared.judgement.Judgement.{Judgement}
use Rattle.p10_judge.specs.declared.judgement.Judgement.TheVariants.{TooLong, BadCertificate, Stale, Failing, Accepted}
use Rattle.p10_judge.specs.Saying.{judgement_line, judgement_status}
use Rattle.p10_verify_command.specs.declared.answer.Answer.{Answer}
use Rattle.p10_verify_command.specs.declared.answer.Answer.TheVariants.{Ungathered, AbsentCertificate, Unread, Judged, Unclean, Clean, Trouble}
use Rattle.p10_verify_command.specs.Names.{Names}
use Rattle.p10_verify_command.specs.Answers.{IsRight}

-- the status of an answer
abbrev pub status_of : Answer → ℕ
status_of (Ungathered why) = ungathered_status why
status_of AbsentCertificate = 9
status_of (Unread why) = unread_status why
status_of (Judged judgement) = judgement_status judgement
status_of (Unclean c at) = 1
status_of (Clean bounds) = 0
status_of (Trouble trouble) = trouble_status trouble

-- the line of a verdict, on the output; its place lies in these sources
abbrev pub verdict_text : Gathered → Judgement → List ℕ
verdict_text sources TooLong = []
verdict_text sources (BadCertificate line) = []
verdict_text sources (Stale at kept found) = judgement_line sources (Stale at kept found)
verdict_text sources (Failing k at) = judgement_line sources (Failing k at)
verdict_text sources (Accepted bounds) = judgement_line sources (Accepted bounds)

-- the line where there is no verdict, on the error output
abbrev pub fault_text : Gathered → Judgement → List ℕ
fault_text sources TooLong = judgement_line sources TooLong
fault_text sources (BadCertificate line) = judgement_line sources (BadCertificate line)
fault_text sources (Stale at kept found) = []
fault_text sources (Failing k at) = []
fault_text sources (Accepted bounds) = []

-- the text on the output, where the sources are these
abbrev pub out_text : Gathered → Answer → List ℕ
out_text sources (Judged judgement) = verdict_text sources judgement
out_text sources (Unclean c at) = unclean_line sources c at
out_text sources (Clean bounds) = clean_line bounds
out_text sources answer = []

-- the text on the error output, where the words name these files
abbrev pub err_text : Names → Gathered → Answer → List ℕ
err_text names sources (Ungathered why) = ungathered_line names.sources sources why
err_text names sources AbsentCertificate = absent_line names.certificate
err_text names sources (Unread why) = unread_line sources why
err_text names sources (Judged judgement) = fault_text sources judgement
err_text names sources (Unclean c at) = []
err_text names sources (Clean bounds) = []
err_text names sources (Trouble trouble) = trouble_line trouble

-- what is said for an answer, where the words name these files and these sources were gathered
abbrev pub saying_of : Names → Gathered → Answer → Saying
saying_of names sources answer = record { status = status_of answer; out = out_text sources answer; err = err_text names sources answer }

-- something is said for a right answer to `verify` with these names
pub record SaysRight (names : Names) (seen : Seen) (saying : Saying) : Type 0 where
  pub sources : Gathered
  pub answer : Answer
  pub is_right : IsRight seen names sources answer
  pub said : saying ≡ saying_of names sources answer
