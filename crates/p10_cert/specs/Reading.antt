-- What readers of whole certificates answer.
use Rattle.std.specs.Prelude.{◌≡◌, ℕ, ◌<◌, ◌≤◌, Bool, List, length, take, codes, bytes_eq, if◌then◌else◌, Option, Some, None, Result, Ok, Err}
use Rattle.p10_base.specs.declared.report.TheConstants.Limit.{CERTIFICATE_BYTES, MOST_CERTIFICATE_BYTES}
use Rattle.p10_cert.specs.declared.claims.Cert.{Cert}
use Rattle.p10_cert.specs.declared.fault.CertFault.{CertFault}
use Rattle.p10_cert.specs.declared.fault.CertFault.TheVariants.{Line, Over, Memory}
use Rattle.p10_cert.specs.declared.sealed.Cert2.{Cert2}
use Rattle.p10_cert.specs.Claims.{claims_of}
use Rattle.p10_cert.specs.Certificate.{IsCertificate, certificate_text}
use Rattle.p10_cert.specs.Sealed.{statement_of, HasDigests}
use Rattle.p10_cert.specs.Statements.{IsStatement, statement_text}
use Rattle.p10_cert.specs.WrongLines.{IsFirstWrongLine, IsFirstWrongSealed}

-- a text that isn't too long: at most the bytes of limit M10
pub record Fits (text : List ℕ) : Type 0 where
  pub short : length text ≤ MOST_CERTIFICATE_BYTES

-- What is read of a text: the certificate whose text it is; or, where it is too long, the limit; or else the first line
-- that no certificate has. Of running out of memory nothing is said but that the text isn't too long. Here a certificate is
-- one of version 1.
abbrev pub ReadsAs : List ℕ → Result Cert CertFault → Type 0
ReadsAs text (Ok c) = Fits text × (text ≡ certificate_text (claims_of c)) × IsCertificate (claims_of c)
ReadsAs text (Err (Line n)) = Fits text × IsFirstWrongLine text n
ReadsAs text (Err (Over limit)) = (MOST_CERTIFICATE_BYTES < length text) × (limit ≡ CERTIFICATE_BYTES)
ReadsAs text (Err Memory) = Fits text

-- the same of certificates of version 2
abbrev pub ReadsAsSealed : List ℕ → Result Cert2 CertFault → Type 0
ReadsAsSealed text (Ok c) = Fits text × (text ≡ statement_text (statement_of c)) × IsStatement (statement_of c) × HasDigests c
ReadsAsSealed text (Err (Line n)) = Fits text × IsFirstWrongSealed text n
ReadsAsSealed text (Err (Over limit)) = (MOST_CERTIFICATE_BYTES < length text) × (limit ≡ CERTIFICATE_BYTES)
ReadsAsSealed text (Err Memory) = Fits text

-- whether a text begins with another
abbrev pub begins_with : List ℕ → List ℕ → Bool
begins_with front text = bytes_eq (take (length front) text) front

-- the version that the first line of a text tells
unfoldable pub version_of : List ℕ → Option ℕ
version_of text =
    if begins_with (codes "p10cert 1\n") text then Some 1 else (if begins_with (codes "p10cert 2\n") text then Some 2 else None)
