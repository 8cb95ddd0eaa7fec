-- What holds of the answers.
use Rattle.std.specs.Prelude.{Bool, ◌≡◌, ◌≢◌, ◌≤◌, ℕ, List, [], length}
use Rattle.p10_base.specs.declared.report.TheConstants.Limit.{MOST_CERTIFICATE_BYTES}
use Rattle.p10_base.specs.declared.report.Violation.{Violation}
use Rattle.p10_base.specs.Gathered.{Gathered}
use Rattle.p10_base.specs.Words.{Text}
use Rattle.p10_core.specs.Typed.{PlainProgram}
use Rattle.p10_expand.specs.Gathering.{Setting}
use Rattle.p10_front.specs.Digests.{PlainDigests}
use Rattle.p10_report.specs.Violations.{violation_lines}
use Rattle.p10_cert.specs.Certificate.{certificate_text}
use Rattle.p10_cert.specs.Claims.{Claims}
use Rattle.p10_approach.specs.Offers.{offers_if}
use Rattle.p10_finder.specs.Answers.{Violating, Certified, IsDerived}
use Rattle.p10_command.specs.Laws.{OneIsRight}
use Rattle.p10_command.specs.Programs.{HasProgram, HasProgramWithDigests}
use Rattle.p10_command.specs.Saying.{Saying}
use Rattle.p10_command.specs.Seen.{Seen}
use Rattle.p10_derive_command.specs.declared.command.DeriveCommand.{DeriveCommand}
use Rattle.p10_derive_command.specs.Ranks.{ranks_if, ranked_text}
use Rattle.p10_derive_command.specs.Answers.{SaysRight, setting_of}

-- where files are told, only one thing is right to say to a command, unless a read fails or memory runs out
abbrev pub DeriveSaysOneThing : Type 0
DeriveSaysOneThing = (derive : DeriveCommand) → OneIsRight (SaysRight derive)

-- the text of claims in a version: theirs alone, or in version 2 with the digests of the program's words and with ranks, if such are
-- asked for, and within limit M10
pub data IsTextInVersion (version : ℕ) (diff : Bool) (s : Setting) (g : Gathered) (p : PlainProgram) (claims : Claims) (text : Text) : Type 0 where
  alone : version ≢ 2 → text ≡ certificate_text claims → IsTextInVersion version diff s g p claims text
  sealed : version ≡ 2 → (digests : PlainDigests) → HasProgramWithDigests s g p digests → text ≡ ranked_text claims digests (ranks_if diff p claims) → length text ≤ MOST_CERTIFICATE_BYTES → IsTextInVersion version diff s g p claims text

-- what is said is the text of the certificate that is derived of the sources' program, in the version that was asked for
pub record TellsCertificate (derive : DeriveCommand) (seen : Seen) (saying : Saying) : Type 0 where
  pub files : Gathered
  pub program : PlainProgram
  pub claims : Claims
  pub gathers : HasProgram (setting_of seen derive) files program
  pub derived : IsDerived (offers_if derive.diff) program (Certified claims)
  pub on_out : IsTextInVersion derive.version derive.diff (setting_of seen derive) files program claims saying.out
  pub on_err : saying.err ≡ []

-- with status 0 what is said is a derived certificate
abbrev pub SuccessIsACertificate : Type 0
SuccessIsACertificate = (derive : DeriveCommand) (seen : Seen) (saying : Saying) → SaysRight derive seen saying → saying.status ≡ 0 → TellsCertificate derive seen saying

-- what is said are the lines of the violations for which there is no certificate of the sources' program
pub record TellsViolations (derive : DeriveCommand) (seen : Seen) (saying : Saying) : Type 0 where
  pub files : Gathered
  pub program : PlainProgram
  pub violations : List Violation
  pub gathers : HasProgram (setting_of seen derive) files program
  pub derived : IsDerived (offers_if derive.diff) program (Violating violations)
  pub on_out : saying.out ≡ []
  pub on_err : saying.err ≡ violation_lines files violations

-- with status 1 what is said are violations
abbrev pub OneIsViolations : Type 0
OneIsViolations = (derive : DeriveCommand) (seen : Seen) (saying : Saying) → SaysRight derive seen saying → saying.status ≡ 1 → TellsViolations derive seen saying
