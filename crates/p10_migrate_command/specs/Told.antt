-- What is right to say to the command `migrate`: the status of the program, and the texts on its two outputs.
use Rattle.std.specs.Prelude.{ℕ, ◌≡◌, List, [], Option}
use Rattle.p10_base.specs.declared.report.TheConstants.Limit.{CERTIFICATE_BYTES}
use Rattle.p10_base.specs.Gathered.{Gathered}
use Rattle.p10_core.specs.Typed.{PlainProgram}
use Rattle.p10_expand.specs.Gathering.{Setting, Gathers}
use Rattle.p10_expand.specs.Setting.{setting}
use Rattle.p10_front.specs.Digests.{PlainDigests}
use Rattle.p10_report.specs.Lines.{failing_line, limit_line, stale_line}
use Rattle.p10_report.specs.Messages.{absent_line, bad_certificate_line}
use Rattle.p10_world.specs.Files.{Named, Lacks}
use Rattle.p10_command.specs.Gathering.{AreUngathered}
use Rattle.p10_command.specs.Programs.{HasProgramWithDigests}
use Rattle.p10_command.specs.Reading.{AreUnread}
use Rattle.p10_command.specs.Saying.{Saying, ungathered_line, ungathered_status, unread_line, unread_status, trouble_line, trouble_status}
use Rattle.p10_command.specs.Seen.{HasCause, Seen}
use Rattle.p10_judge.specs.Loading.{Gives, IsHeld}
use Rattle.p10_migrate_command.specs.declared.answer.Answer.{Answer}
use Rattle.p10_migrate_command.specs.declared.answer.Answer.TheVariants.{Ungathered, AbsentCertificate, Unread, Migrated, Trouble}
use Rattle.p10_migrate_command.specs.declared.command.MigrateCommand.{MigrateCommand}
use Rattle.p10_migrate_command.specs.Migrating as migrating
use Rattle.p10_migrate_command.specs.Migrating.{Migrates, migrated_of, TooLong, BadCertificate, Stale, Unfit, Written}

-- ## When an answer is right

-- the sources of a command are gathered from the files, where they are told
abbrev pub setting_of : Option (List Named) → MigrateCommand → Setting
setting_of held m = setting held m.sources m.directories

-- this comes of the certificate for the program of the sources and the digests of its words
pub record IsMigrated (held : Option (List Named)) (m : MigrateCommand) (g : Gathered) (to : migrating.Migrated) : Type 0 where
  pub program : PlainProgram
  pub digests : PlainDigests
  pub has : HasProgramWithDigests (setting_of held m) g program digests
  pub bytes : List ℕ
  pub given : Gives held m.certificate bytes
  pub is : Migrates program digests bytes to

-- when an answer is right, where these sources were gathered, in the order in which answers are tried
abbrev pub IsRight : Seen → MigrateCommand → Gathered → Answer → Type 0
IsRight seen m g (Ungathered why) = AreUngathered (setting_of seen.held m) g why
IsRight seen m g AbsentCertificate = Gathers (setting_of seen.held m) g × Lacks seen.held m.certificate
IsRight seen m g (Unread why) = Gathers (setting_of seen.held m) g × IsHeld seen.held m.certificate × AreUnread g why
IsRight seen m g (Migrated migration) = IsMigrated seen.held m g (migrated_of migration)
-- running out of memory is the one answer that is right at any time
IsRight seen m g (Trouble trouble) = HasCause trouble seen.faults_before seen.faults_after

-- ## What is said for it

-- the status of what comes of a certificate
abbrev pub migrated_status : migrating.Migrated → ℕ
migrated_status TooLong = 8
migrated_status (BadCertificate line) = 4
migrated_status (Stale at kept found) = 1
migrated_status (Unfit at) = 1
migrated_status (Written text) = 0

-- its text on the output
abbrev pub migrated_out : migrating.Migrated → List ℕ
migrated_out (Written text) = text
migrated_out to = []

-- its line on the error output; a place lies in these sources
abbrev pub migrated_err : Gathered → migrating.Migrated → List ℕ
migrated_err sources TooLong = limit_line CERTIFICATE_BYTES
migrated_err sources (BadCertificate line) = bad_certificate_line line
migrated_err sources (Stale at kept found) = stale_line sources at kept found
migrated_err sources (Unfit at) = failing_line sources 1 at
migrated_err sources (Written text) = []

-- the status of an answer
abbrev pub status_of : Answer → ℕ
status_of (Ungathered why) = ungathered_status why
status_of AbsentCertificate = 9
status_of (Unread why) = unread_status why
status_of (Migrated migration) = migrated_status (migrated_of migration)
status_of (Trouble trouble) = trouble_status trouble

-- the text on the output
abbrev pub answer_out : Answer → List ℕ
answer_out (Migrated migration) = migrated_out (migrated_of migration)
answer_out answer = []

-- the text on the error output, where these sources were gathered
abbrev pub answer_err : MigrateCommand → Gathered → Answer → List ℕ
answer_err m sources (Ungathered why) = ungathered_line m.sources sources why
answer_err m sources AbsentCertificate = absent_line m.certificate
answer_err m sources (Unread why) = unread_line sources why
answer_err m sources (Migrated migration) = migrated_err sources (migrated_of migration)
answer_err m sources (Trouble trouble) = trouble_line trouble

-- what is said for an answer, where these sources were gathered
abbrev pub saying_of : MigrateCommand → Gathered → Answer → Saying
saying_of m sources answer = record { status = status_of answer; out = answer_out answer; err = answer_err m sources answer }

-- something is said for a right answer to the command
pub record SaysRight (m : MigrateCommand) (seen : Seen) (saying : Saying) : Type 0 where
  pub sources : Gathered
  pub answer : Answer
  pub is_right : IsRight seen m sources answer
  pub said : saying ≡ saying_of m sources answer
