-- Where `verify` and `derive` can only succeed, unless something fails: the mirror of what a status of 0 promises.
use Rattle.std.specs.Prelude.{Bool, ℕ, ◌≡◌, ◌≤◌, true, List, length, Some, None}
use Rattle.p10_base.specs.declared.report.TheConstants.Limit.{MOST_CERTIFICATE_BYTES}
use Rattle.p10_base.specs.Gathered.{Gathered}
use Rattle.p10_base.specs.Words.{Text}
use Rattle.p10_world.specs.Files.{Named, file_of}
use Rattle.p10_core.specs.Typed.{PlainProgram}
use Rattle.p10_cert.specs.Claims.{Claims}
use Rattle.p10_cert.specs.Statements.{Statement, IsStatement, statement_text}
use Rattle.p10_check.specs.declared.verdict.Verdict.TheVariants.{Accepted}
use Rattle.p10_check.specs.Texts.{claims_in, first_stale}
use Rattle.p10_clean.specs.declared.flaw.Clean.TheVariants.{Yes}
use Rattle.p10_clean.specs.Clean.{cleanness}
use Rattle.p10_approach.specs.Offers.{offers_if}
use Rattle.p10_finder.specs.Answers.{Certified, IsDerived}
use Rattle.p10_expand.specs.Setting.{setting}
use Rattle.p10_front.specs.Digests.{reading_digests}
use Rattle.p10_command.specs.Programs.{HasProgram}
use Rattle.p10_judge.specs.Judging.{HasVerdict}
use Rattle.p10_verify_command.specs.Names.{Names}
use Rattle.p10_verify_command.specs.Answers.{setting_of}
use Rattle.p10_derive_command.specs.Laws.{IsTextInVersion}
use Rattle.p10_top.specs.Commands.{IsDeriveLine, IsVerifyLine}

-- a status is 0, or that of a read that failed, of a write that failed, or of memory that is out
pub data SucceedsUnlessFailing : ℕ → Type 0 where
  succeeds : SucceedsUnlessFailing 0
  read_failed : SucceedsUnlessFailing 5
  write_failed : SucceedsUnlessFailing 6
  memory_out : SucceedsUnlessFailing 7

-- the sources are read as a program, and the certificate's bytes are the text of one of either version, no longer than such a text may be, which
-- speaks of the program's words; it is accepted for the program, by the evidence of ranges, and by that of differences, too, where it has a
-- section of ranks; and it is clean, where it has to be
pub record HasAccepted (names : Names) (files : List Named) : Type 0 where
  pub sources : Gathered
  pub program : PlainProgram
  pub has : HasProgram (setting_of (Some files) names) sources program
  pub certificate : Statement
  pub certificate_given : file_of names.certificate files ≡ Some (statement_text certificate)
  pub short : length (statement_text certificate) ≤ MOST_CERTIFICATE_BYTES
  pub is_certificate : IsStatement certificate
  pub words : first_stale 0 certificate.entries (reading_digests has.reading).funcs ≡ None
  pub accepted : HasVerdict program certificate (Accepted certificate.ending.total)
  pub clean : names.clean ≡ true → Yes ≡ cleanness program (claims_in certificate)

-- if the words are `verify` with such a certificate, the status is 0, unless something fails
abbrev pub AcceptsAccepted : List Text → List Named → ℕ → Type 0
AcceptsAccepted words files status = (names : Names) → IsVerifyLine words names → HasAccepted names files → SucceedsUnlessFailing status

-- the sources are read as a program, a certificate is derived of it, and this is its text in a version
pub record HasDerived (directories : List Text) (version : ℕ) (diff : Bool) (roots : List Text) (files : List Named) : Type 0 where
  pub sources : Gathered
  pub program : PlainProgram
  pub has : HasProgram (setting (Some files) roots directories) sources program
  pub claims : Claims
  pub derived : IsDerived (offers_if diff) program (Certified claims)
  pub text : List ℕ
  pub written : IsTextInVersion version diff (setting (Some files) roots directories) sources program claims text

-- if the words are `derive` with such sources, the status is 0, unless something fails
abbrev pub DerivesDerived : List Text → List Named → ℕ → Type 0
DerivesDerived words files status =
    (directories : List Text) (version : ℕ) (diff : Bool) (roots : List Text) → IsDeriveLine words directories version diff roots → HasDerived directories version diff roots files → SucceedsUnlessFailing status
