-- What is right to say to the command `derive`.
use Rattle.std.specs.Prelude.{◌≡◌, ◌≢◌, ℕ}
use Rattle.p10_base.specs.Gathered.{Gathered}
use Rattle.p10_core.specs.Typed.{PlainProgram}
use Rattle.p10_report.specs.Violations.{violation_lines}
use Rattle.p10_cert.specs.Certificate.{certificate_text}
use Rattle.p10_cert.specs.Claims.{Claims}
use Rattle.p10_expand.specs.Gathering.{Setting, Gathers}
use Rattle.p10_expand.specs.Setting.{setting}
use Rattle.p10_approach.specs.Offers.{offers_if}
use Rattle.p10_finder.specs.Answers.{Derived, Violating, Over, Certified, IsDerived}
use Rattle.p10_front.specs.Digests.{PlainDigests}
use Rattle.p10_command.specs.declared.gathering.Ungathered.{Ungathered}
use Rattle.p10_command.specs.declared.reading.Unread.{Unread}
use Rattle.p10_command.specs.declared.trouble.Trouble.{Trouble}
use Rattle.p10_command.specs.Gathering.{AreUngathered}
use Rattle.p10_command.specs.Reading.{AreUnread}
use Rattle.p10_command.specs.Programs.{HasProgram, HasProgramWithDigests}
use Rattle.p10_command.specs.Saying.{Saying, limit_saying, line_saying, text_saying, trouble_saying, ungathered_saying, unread_saying}
use Rattle.p10_command.specs.Seen.{HasCause, Seen}
use Rattle.p10_seal.specs.Saying.{sealed_saying}
use Rattle.p10_seal.specs.Sealing.{within_limit}
use Rattle.p10_derive_command.specs.Ranks.{ranks_if, ranked_text}
use Rattle.p10_derive_command.specs.declared.command.DeriveCommand.{DeriveCommand}

-- the sources of the command are gathered from the files, where they are told
abbrev pub setting_of : Seen → DeriveCommand → Setting
setting_of seen derive = setting seen.held derive.sources derive.directories

-- what is said of what is derived, where no digests are asked for: the text of the certificate on the output; the violations, or the
-- limit that is exceeded, on the error output
abbrev pub derived_saying : Gathered → Derived → Saying
derived_saying g (Certified claims) = text_saying (certificate_text claims)
derived_saying g (Violating violations) = line_saying 1 (violation_lines g violations)
derived_saying g (Over limit) = limit_saying limit

-- no digests are asked for: there is no certificate, or its text isn't to be of version 2
abbrev pub AsksForNoDigests : ℕ → Derived → Type 0
AsksForNoDigests version (Certified claims) = version ≢ 2
AsksForNoDigests version answer = Unit {0}

-- what is right to say to the command, by what is seen of the files
pub data SaysRight (derive : DeriveCommand) (seen : Seen) (saying : Saying) : Type 0 where
  -- the sources aren't gathered
  ungathered : (g : Gathered) (why : Ungathered) → AreUngathered (setting_of seen derive) g why → saying ≡ ungathered_saying derive.sources g why → SaysRight derive seen saying
  -- the sources are gathered, but are no program
  unread : (g : Gathered) (why : Unread) → Gathers (setting_of seen derive) g → AreUnread g why → saying ≡ unread_saying g why → SaysRight derive seen saying
  -- this is derived of the program
  derived : (g : Gathered) (p : PlainProgram) (answer : Derived) → HasProgram (setting_of seen derive) g p → IsDerived (offers_if derive.diff) p answer → AsksForNoDigests derive.version answer → saying ≡ derived_saying g answer → SaysRight derive seen saying
  -- the certificate that is derived of the program goes with the digests of its words, and with its ranks
  sealed : (g : Gathered) (p : PlainProgram) (digests : PlainDigests) (claims : Claims) → HasProgramWithDigests (setting_of seen derive) g p digests → IsDerived (offers_if derive.diff) p (Certified claims) → derive.version ≡ 2
      → saying ≡ sealed_saying (within_limit (ranked_text claims digests (ranks_if derive.diff p claims))) → SaysRight derive seen saying
  -- a read has failed or memory is out
  troubled : (trouble : Trouble) → HasCause trouble seen.faults_before seen.faults_after → saying ≡ trouble_saying trouble → SaysRight derive seen saying
