-- What holds of the answers.
use Rattle.std.specs.Prelude.{◌≡◌, ◌↔◌, ◌≤◌, List, ℕ, [], length, None}
use Rattle.p10_base.specs.declared.report.TheConstants.Limit.{MOST_CERTIFICATE_BYTES}
use Rattle.p10_base.specs.Gathered.{Gathered}
use Rattle.p10_core.specs.Typed.{PlainProgram}
use Rattle.p10_cert.specs.Certificate.{IsCertificate, certificate_text}
use Rattle.p10_cert.specs.Claims.{Claims}
use Rattle.p10_cert.specs.Statements.{Statement, IsStatement}
use Rattle.p10_check.specs.declared.verdict.Verdict.{Verdict}
use Rattle.p10_check.specs.declared.verdict.TextVerdict.{TextVerdict}
use Rattle.p10_check.specs.Conditions.{IsVerdict}
use Rattle.p10_check.specs.Passes.{Standing}
use Rattle.p10_fit.specs.Fits.{unfit}
use Rattle.p10_front.specs.Digests.{PlainDigests}
use Rattle.p10_command.specs.Laws.{OneIsRight}
use Rattle.p10_command.specs.Programs.{HasProgramWithDigests}
use Rattle.p10_command.specs.Saying.{Saying}
use Rattle.p10_command.specs.Seen.{Seen}
use Rattle.p10_judge.specs.declared.judgement.Judgement.{Judgement}
use Rattle.p10_judge.specs.Judging.{IsWeighed}
use Rattle.p10_judge.specs.Loading.{Gives, certificate_limit}
use Rattle.p10_seal.specs.Laws.{AreSized}
use Rattle.p10_seal.specs.Sealing.{sealed, sealed_text}
use Rattle.p10_migrate_command.specs.declared.command.MigrateCommand.{MigrateCommand}
use Rattle.p10_migrate_command.specs.Migrating.{IsCertificateText, Migrates, Written}
use Rattle.p10_check.specs.Texts.{IsTextVerdict, claims_in, first_stale}
use Rattle.p10_migrate_command.specs.Told.{SaysRight, setting_of}

-- where files are told, only one thing is right to say to a command, unless a read fails or memory runs out
abbrev pub MigrateSaysOneThing : Type 0
MigrateSaysOneThing = (m : MigrateCommand) → OneIsRight (SaysRight m)

-- ## What is written

-- what is said is the text of version 2 with the claims of the certificate, which speaks of the program of the sources, and with the
-- digests of its words
pub record TellsMigrated (m : MigrateCommand) (seen : Seen) (saying : Saying) : Type 0 where
  pub files : Gathered
  pub program : PlainProgram
  pub digests : PlainDigests
  pub gathers : HasProgramWithDigests (setting_of seen.held m) files program digests
  pub bytes : List ℕ
  pub given : Gives seen.held m.certificate bytes
  pub statement : Statement
  pub read : IsCertificateText bytes statement
  pub words : first_stale 0 statement.entries digests.funcs ≡ None
  pub fits : unfit program (claims_in statement) ≡ None
  pub on_out : saying.out ≡ sealed_text (claims_in statement) digests
  pub on_err : saying.err ≡ []
  pub written : IsCertificateText saying.out (sealed (claims_in statement) digests)

-- with status 0 what is said is that
abbrev pub SuccessIsMigrated : Type 0
SuccessIsMigrated = (m : MigrateCommand) (seen : Seen) (saying : Saying) → SaysRight m seen saying → saying.status ≡ 0 → TellsMigrated m seen saying

-- ## What is verified of it

-- what is written speaks of the program's words, and the verdict on it is that on the claims that were read
pub record AreAlike (stands : Standing) (p : PlainProgram) (digests : PlainDigests) (s : Statement) : Type 0 where
  pub words : first_stale 0 (sealed (claims_in s) digests).entries digests.funcs ≡ None
  pub claims : claims_in (sealed (claims_in s) digests) ≡ claims_in s
  pub verdicts : (v : Verdict) → IsVerdict stands p (claims_in (sealed (claims_in s) digests)) v ↔ IsVerdict stands p (claims_in s) v

-- so it is where there is one digest for each function, and the certificate speaks of the program
abbrev pub MigratedIsAcceptedAlike : Type 0
MigratedIsAcceptedAlike = (stands : Standing) (p : PlainProgram) (digests : PlainDigests) (s : Statement) → length digests.funcs ≡ length p.functions → unfit p (claims_in s) ≡ None → AreAlike stands p digests s

-- the verdict on the text of version 2 of claims, with the digests of a program's words, is that on their text of version 1
abbrev pub MigratedIsVerifiedAlike : Type 0
MigratedIsVerifiedAlike =
    (stands : Standing) (p : PlainProgram) (digests : PlainDigests) (c : Claims) (verdict : TextVerdict) → length digests.funcs ≡ length c.funcs → AreSized digests → IsCertificate c
    → IsTextVerdict stands p digests.funcs (sealed_text c digests) verdict ↔ IsTextVerdict stands p digests.funcs (certificate_text c) verdict

-- so what the bytes of the text of version 2 come to for `verify` is what those of the text of version 1 come to, where neither is too long
abbrev pub MigratedIsJudgedAlike : Type 0
MigratedIsJudgedAlike =
    (p : PlainProgram) (digests : PlainDigests) (c : Claims) (judgement : Judgement) → length digests.funcs ≡ length c.funcs → AreSized digests → IsCertificate c
    → length (sealed_text c digests) ≤ certificate_limit → length (certificate_text c) ≤ certificate_limit
    → IsWeighed p digests.funcs (sealed_text c digests) judgement ↔ IsWeighed p digests.funcs (certificate_text c) judgement

-- what is written is migrated to itself
abbrev pub MigratedStaysTheSame : Type 0
MigratedStaysTheSame =
    (p : PlainProgram) (digests : PlainDigests) (s : Statement) → length digests.funcs ≡ length p.functions → AreSized digests → IsStatement s → unfit p (claims_in s) ≡ None
    → length (sealed_text (claims_in s) digests) ≤ MOST_CERTIFICATE_BYTES → Migrates p digests (sealed_text (claims_in s) digests) (Written (sealed_text (claims_in s) digests))
