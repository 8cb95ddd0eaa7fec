-- What is right to say to the command `recheck`: the status of the program, and the texts on its two outputs.
use Rattle.std.specs.Prelude.{ℕ, ◌≡◌, List, [], Option}
use Rattle.p10_base.specs.declared.report.TheConstants.Limit.{CERTIFICATE_BYTES}
use Rattle.p10_base.specs.Gathered.{Gathered}
use Rattle.p10_core.specs.Typed.{PlainProgram}
use Rattle.p10_expand.specs.Gathering.{Setting, Gathers}
use Rattle.p10_expand.specs.Setting.{setting}
use Rattle.p10_front.specs.Digests.{PlainDigests}
use Rattle.p10_report.specs.Lines.{limit_line, passed_line}
use Rattle.p10_report.specs.Messages.{absent_line, bad_certificate_line, bad_old_certificate_line}
use Rattle.p10_report.specs.Stops.{◌then◌}
use Rattle.p10_world.specs.Files.{Named, Lacks}
use Rattle.p10_command.specs.Gathering.{AreUngathered}
use Rattle.p10_command.specs.Programs.{HasProgramWithDigests}
use Rattle.p10_command.specs.Reading.{AreUnread}
use Rattle.p10_command.specs.Saying.{Saying, ungathered_line, ungathered_status, unread_line, unread_status, trouble_line, trouble_status}
use Rattle.p10_command.specs.Seen.{HasCause, Seen}
use Rattle.p10_judge.specs.declared.judgement.Judgement.{Judgement}
use Rattle.p10_judge.specs.Loading.{Gives, IsHeld}
use Rattle.p10_judge.specs.Saying.{judgement_line, judgement_status}
use Rattle.p10_rejudge.specs.declared.rejudging.Passed.{Passed}
use Rattle.p10_recheck_command.specs.declared.answer.Answer.{Answer}
use Rattle.p10_recheck_command.specs.declared.answer.Answer.TheVariants.{Ungathered, AbsentCertificate, AbsentOld, Unread, Rechecked, Trouble}
use Rattle.p10_recheck_command.specs.declared.command.RecheckCommand.{RecheckCommand}
use Rattle.p10_recheck_command.specs.declared.rechecking.Rechecking.{Rechecking}
use Rattle.p10_recheck_command.specs.declared.rechecking.Rechecking.TheVariants.{TooLong, BadCertificate, OldTooLong, BadOld, Judged}
use Rattle.p10_recheck_command.specs.Rechecking.{Rechecks}

-- ## When an answer is right

-- the sources of a command are gathered from the files, where they are told
abbrev pub setting_of : Option (List Named) → RecheckCommand → Setting
setting_of held r = setting held r.sources r.directories

-- both certificates come to this, for the program of the sources and the digests of its words
pub record BothComeTo (held : Option (List Named)) (r : RecheckCommand) (g : Gathered) (to : Rechecking) : Type 0 where
  pub program : PlainProgram
  pub digests : PlainDigests
  pub has : HasProgramWithDigests (setting_of held r) g program digests
  pub new : List ℕ
  pub new_given : Gives held r.certificate new
  pub old : List ℕ
  pub old_given : Gives held r.since old
  pub is : Rechecks program digests new old to

-- when an answer is right, where these sources were gathered, in the order in which answers are tried
abbrev pub IsRight : Seen → RecheckCommand → Gathered → Answer → Type 0
IsRight seen r g (Ungathered why) = AreUngathered (setting_of seen.held r) g why
IsRight seen r g AbsentCertificate = Gathers (setting_of seen.held r) g × Lacks seen.held r.certificate
IsRight seen r g AbsentOld = Gathers (setting_of seen.held r) g × IsHeld seen.held r.certificate × Lacks seen.held r.since
IsRight seen r g (Unread why) = Gathers (setting_of seen.held r) g × IsHeld seen.held r.certificate × IsHeld seen.held r.since × AreUnread g why
IsRight seen r g (Rechecked to) = BothComeTo seen.held r g to
-- running out of memory is the one answer that is right at any time
IsRight seen r g (Trouble trouble) = HasCause trouble seen.faults_before seen.faults_after

-- ## What is said for it

-- the status of what both certificates come to
abbrev pub rechecked_status : Rechecking → ℕ
rechecked_status TooLong = 8
rechecked_status (BadCertificate line) = 4
rechecked_status OldTooLong = 8
rechecked_status (BadOld line) = 4
rechecked_status (Judged judgement passed) = judgement_status judgement

-- the line of a judgement, whose place lies in these sources, and that of how many functions are passed for it
unfoldable pub judged_lines : Gathered → Judgement → Passed → List ℕ
judged_lines sources judgement passed = judgement_line sources judgement then passed_line passed.passed passed.functions

-- its text on the output
abbrev pub rechecked_out : Gathered → Rechecking → List ℕ
rechecked_out sources (Judged judgement passed) = judged_lines sources judgement passed
rechecked_out sources to = []

-- its line on the error output
abbrev pub rechecked_err : Rechecking → List ℕ
rechecked_err TooLong = limit_line CERTIFICATE_BYTES
rechecked_err (BadCertificate line) = bad_certificate_line line
rechecked_err OldTooLong = limit_line CERTIFICATE_BYTES
rechecked_err (BadOld line) = bad_old_certificate_line line
rechecked_err (Judged judgement passed) = []

-- the status of an answer
abbrev pub status_of : Answer → ℕ
status_of (Ungathered why) = ungathered_status why
status_of AbsentCertificate = 9
status_of AbsentOld = 9
status_of (Unread why) = unread_status why
status_of (Rechecked to) = rechecked_status to
status_of (Trouble trouble) = trouble_status trouble

-- the text on the output, where these sources were gathered
abbrev pub answer_out : Gathered → Answer → List ℕ
answer_out sources (Rechecked to) = rechecked_out sources to
answer_out sources answer = []

-- the text on the error output, where these sources were gathered
abbrev pub answer_err : RecheckCommand → Gathered → Answer → List ℕ
answer_err r sources (Ungathered why) = ungathered_line r.sources sources why
answer_err r sources AbsentCertificate = absent_line r.certificate
answer_err r sources AbsentOld = absent_line r.since
answer_err r sources (Unread why) = unread_line sources why
answer_err r sources (Rechecked to) = rechecked_err to
answer_err r sources (Trouble trouble) = trouble_line trouble

-- what is said for an answer, where these sources were gathered
abbrev pub saying_of : RecheckCommand → Gathered → Answer → Saying
saying_of r sources answer = record { status = status_of answer; out = answer_out sources answer; err = answer_err r sources answer }

-- something is said for a right answer to the command
pub record SaysRight (r : RecheckCommand) (seen : Seen) (saying : Saying) : Type 0 where
  pub sources : Gathered
  pub answer : Answer
  pub is_right : IsRight seen r sources answer
  pub said : saying ≡ saying_of r sources answer
