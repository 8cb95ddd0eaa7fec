-- What comes of a certificate that is migrated to a program's words.
use Rattle.std.specs.Prelude.{◌≡◌, ℕ, ◌≤◌, ◌<◌, List, length, Option, Some, None}
use Rattle.p10_base.specs.declared.report.TheConstants.Limit.{MOST_CERTIFICATE_BYTES}
use Rattle.p10_base.specs.declared.span.Span.{Span}
use Rattle.p10_base.specs.Words.{Text}
use Rattle.p10_cert.specs.Claims.{Claims}
use Rattle.p10_cert.specs.Sealed.{bytes_of}
use Rattle.p10_cert.specs.Statements.{Statement, IsStatement, statement_text}
use Rattle.p10_diff_evidence.specs.Placing.{IsBad, IsRanked}
use Rattle.p10_check.specs.Places.{name_at}
use Rattle.p10_core.specs.Typed.{PlainProgram}
use Rattle.p10_fit.specs.Fits.{unfit}
use Rattle.p10_front.specs.Digests.{PlainDigests}
use Rattle.p10_seal.specs.Sealing.{sealed_text, within_limit}
use Rattle.p10_migrate_command.specs.declared.migration.Migration.{Migration}
use Rattle.p10_migrate_command.specs.declared.migration.Migration.TheVariants as code
use Rattle.p10_check.specs.Texts.{StaleAt, claims_in, first_stale}

-- what comes of bytes that are to be migrated
pub data Migrated : Type 0 where
  -- they are more than a certificate may have, or its text of version 2 would have more (M10)
  TooLong : Migrated
  -- no certificate has this line after those before it, or it isn't one of ranks in their section
  BadCertificate : ℕ → Migrated
  -- K0: the words of the function at this place have another digest than the certificate keeps; both are told
  Stale : Span → List ℕ → List ℕ → Migrated
  -- K1: the certificate doesn't speak of the function at this place
  Unfit : Span → Migrated
  -- its text of version 2 is this
  Written : Text → Migrated

-- what the code says of it
abbrev pub migrated_of : Migration → Migrated
migrated_of code.TooLong = TooLong
migrated_of (code.BadCertificate line) = BadCertificate line
migrated_of (code.Stale at kept found) = Stale at (bytes_of kept) (bytes_of found)
migrated_of (code.Unfit at) = Unfit at
migrated_of (code.Text text) = Written text

-- ## What a certificate is migrated to

-- a text, unless it is too long
abbrev pub text_or_limit : Option Text → Migrated
text_or_limit (Some text) = Written text
text_or_limit None = TooLong

-- by the function of which the claims don't speak, if there is one (K1): the text of version 2 of the claims with these digests
abbrev pub fitted : PlainProgram → PlainDigests → Claims → Option ℕ → Migrated
fitted p digests c (Some number) = Unfit (name_at p number)
fitted p digests c None = text_or_limit (within_limit (sealed_text c digests))

-- by the first function whose digest differs, if there is one (K0), which is tried before
abbrev pub migrated_by : PlainProgram → PlainDigests → Claims → Option StaleAt → Migrated
migrated_by p digests c (Some stale) = Stale (name_at p stale.number) stale.kept stale.found
migrated_by p digests c None = fitted p digests c (unfit p c)

-- what comes of what a certificate says, for a program with these digests
abbrev pub migrated : PlainProgram → PlainDigests → Statement → Migrated
migrated p digests s = migrated_by p digests (claims_in s) (first_stale 0 s.entries digests.funcs)

-- bytes within the limit are the text of this certificate
pub record IsCertificateText (bytes : List ℕ) (s : Statement) : Type 0 where
  pub short : length bytes ≤ MOST_CERTIFICATE_BYTES
  pub good : IsStatement s
  pub exact : bytes ≡ statement_text s
  pub ranked : IsRanked s

-- what comes of bytes, for a program with these digests
pub data Migrates (p : PlainProgram) (digests : PlainDigests) (bytes : List ℕ) (m : Migrated) : Type 0 where
  too_long : MOST_CERTIFICATE_BYTES < length bytes → m ≡ TooLong → Migrates p digests bytes m
  bad : (line : ℕ) → length bytes ≤ MOST_CERTIFICATE_BYTES → IsBad bytes line → m ≡ BadCertificate line → Migrates p digests bytes m
  certificate : (s : Statement) → IsCertificateText bytes s → m ≡ migrated p digests s → Migrates p digests bytes m
