-- What a verified certificate promises, and one that is derived.
use Rattle.std.specs.Prelude.{Bool, ℕ, ◌≡◌, true, List, Option, Some, None}
use Rattle.std.specs.Io.KnownBytes.{Appends}
use Rattle.p10_base.specs.Gathered.{Gathered}
use Rattle.p10_base.specs.Words.{Text}
use Rattle.p10_world.specs.Files.{Named, file_of}
use Rattle.p10_core.specs.Typed.{PlainProgram}
use Rattle.p10_core.specs.WholePrograms.{IsWholeProgram}
use Rattle.p10_meaning.specs.Runs.{Within}
use Rattle.p10_cert.specs.Claims.{Claims}
use Rattle.p10_cert.specs.Statements.{Statement, IsStatement, statement_text}
use Rattle.p10_check.specs.declared.verdict.Verdict.TheVariants.{Accepted}
use Rattle.p10_check.specs.Conditions.{IsVerdict}
use Rattle.p10_check.specs.Texts.{first_stale}
use Rattle.p10_approach.specs.Offers.{offers_if}
use Rattle.p10_finder.specs.Answers.{Certified, IsDerived}
use Rattle.p10_expand.specs.Gathering.{Gathers}
use Rattle.p10_expand.specs.Setting.{setting}
use Rattle.p10_front.specs.Digests.{reading_digests}
use Rattle.p10_front.specs.Readings.{PlainReading, AreReadAs}
use Rattle.p10_clean_soundness.specs.Laws.{RunsAreDefined}
use Rattle.p10_verify_command.specs.Names.{Names}
use Rattle.p10_verify_command.specs.Answers.{setting_of}
use Rattle.p10_agreement.specs.Laws.{IsVerifiedText}
use Rattle.p10_derive_command.specs.Laws.{IsTextInVersion}
use Rattle.p10_top.specs.Commands.{IsDeriveLine, IsVerifyLine}
use Rattle.p10_acceptance.specs.Supporting.{standing_if}

-- The sources are read as a program, the certificate's bytes are the text of one of either version, which speaks of the program's words,
-- and from every input each call of `main`, or each turn of the task loop and the part before it, returns, fails an assertion or stops at
-- a named undefined operation within the claimed steps; no chain of calls exceeds the claimed depth, and nothing is allocated or freed
-- after the marked end of initialisation. With `--clean` none stops at an undefined operation.
pub record BoundsRuns (names : Names) (files : List Named) : Type 0 where
  pub sources : Gathered
  pub gathers : Gathers (setting_of (Some files) names) sources
  pub reading : PlainReading
  pub program : PlainProgram
  pub read : AreReadAs sources reading program
  pub whole : IsWholeProgram program
  pub certificate : Statement
  pub certificate_given : file_of names.certificate files ≡ Some (statement_text certificate)
  pub is_certificate : IsStatement certificate
  pub words : first_stale 0 certificate.entries (reading_digests reading).funcs ≡ None
  pub within : Within program certificate.ending.total
  pub defined : names.clean ≡ true → RunsAreDefined program certificate.ending.total

-- if the words are `verify` with sources, directories of included files and a certificate, then that certificate bounds every run, and with `--clean` excludes every undefined operation
abbrev pub Verified : List Text → List Named → Type 0
Verified words files = (names : Names) → IsVerifyLine words names → BoundsRuns names files

-- The sources are read as a program, and the output took the text of the claims that are derived of it, in version 2 with the digests of
-- its words, and with ranks where variables that approach each other bound turns; these are accepted for the program with their total, by the evidence of ranges or of differences, so that every run of it stays within them; and
-- `verify` accepts a file of this text.
pub record TellsBounds (directories : List Text) (version : ℕ) (diff : Bool) (roots : List Text) (files : List Named) (out_old out_new : Option (List ℕ)) : Type 0 where
  pub sources : Gathered
  pub gathers : Gathers (setting (Some files) roots directories) sources
  pub reading : PlainReading
  pub program : PlainProgram
  pub read : AreReadAs sources reading program
  pub whole : IsWholeProgram program
  pub claims : Claims
  pub derived : IsDerived (offers_if diff) program (Certified claims)
  pub text : List ℕ
  pub written : IsTextInVersion version diff (setting (Some files) roots directories) sources program claims text
  pub taken : Appends out_old out_new text
  pub accepted : IsVerdict (standing_if diff program claims) program claims (Accepted claims.total)
  pub within : Within program claims.total
  pub verified : IsVerifiedText (record { directories = directories; version = version; diff = diff; sources = roots }) files claims text

-- if the words are `derive` with sources and directories of included files, then the output took a certificate that bounds every run
abbrev pub DerivesBounds : List Text → List Named → Option (List ℕ) → Option (List ℕ) → Type 0
DerivesBounds words files out_old out_new = (directories : List Text) (version : ℕ) (diff : Bool) (roots : List Text) → IsDeriveLine words directories version diff roots → TellsBounds directories version diff roots files out_old out_new
