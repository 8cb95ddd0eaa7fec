-- What a certificate comes to, for a program and the digests of its functions.
use Rattle.std.specs.Prelude.{ℕ, ◌≡◌, ◌<◌, ◌≤◌, List, length, Option, Some, None}
use Rattle.p10_base.specs.declared.digest.Digest.{Digest}
use Rattle.p10_base.specs.declared.span.Span.{Span}
use Rattle.p10_world.specs.Files.{Named}
use Rattle.p10_core.specs.Typed.{PlainProgram}
use Rattle.p10_cert.specs.Sealed.{bytes_of}
use Rattle.p10_cert.specs.Statements.{Statement, IsStatement, statement_text}
use Rattle.p10_check.specs.declared.verdict.Verdict.{Verdict}
use Rattle.p10_check.specs.declared.verdict.Verdict.TheVariants as verdicts
use Rattle.p10_check.specs.declared.verdict.TextVerdict.{TextVerdict}
use Rattle.p10_check.specs.declared.verdict.TextVerdict.TheVariants as said
use Rattle.p10_check.specs.Conditions.{IsVerdict}
use Rattle.p10_check.specs.Places.{name_at}
use Rattle.p10_check.specs.Texts.{StaleAt, claims_in, first_stale}
use Rattle.p10_diff_evidence.specs.Standing.{standing_by}
use Rattle.p10_diff_evidence.specs.Placing.{IsBad, IsRanked}
use Rattle.p10_judge.specs.declared.judgement.Judgement.{Judgement}
use Rattle.p10_judge.specs.declared.judgement.Judgement.TheVariants.{TooLong, BadCertificate, Stale, Failing, Accepted}
use Rattle.p10_judge.specs.Loading.{Gives, certificate_limit}

-- what the verdict on the claims of a certificate for a program is: with the evidence of ranges, and with that of differences where the
-- certificate has a section of ranks
pub record HasVerdict (p : PlainProgram) (s : Statement) (v : Verdict) : Type 0 where
  pub ranked : IsRanked s
  pub is : IsVerdict (standing_by p ranked.ranks) p (claims_in s) v

-- bytes within the limit are the text of this certificate
pub record IsCertificateOf (bytes : List ℕ) (s : Statement) : Type 0 where
  pub short : length bytes ≤ certificate_limit
  pub text_is : bytes ≡ statement_text s
  pub is_certificate : IsStatement s

-- bytes are the text of a certificate that speaks of these words, and whose claims have this verdict for a program
pub record IsClaimed (p : PlainProgram) (digests : List (List ℕ)) (bytes : List ℕ) (verdict : Verdict) : Type 0 where
  pub certificate : Statement
  pub read : IsCertificateOf bytes certificate
  pub words : first_stale 0 certificate.entries digests ≡ None
  pub has : HasVerdict p certificate verdict

-- bytes are the text of a certificate that speaks of other words, first of those of this function
pub record IsOfOtherWords (digests : List (List ℕ)) (bytes : List ℕ) (stale : StaleAt) : Type 0 where
  pub certificate : Statement
  pub read : IsCertificateOf bytes certificate
  pub ranked : IsRanked certificate
  pub words : first_stale 0 certificate.entries digests ≡ Some stale

-- the place of a function of a program, the digest that is kept of it, and its own
pub record IsToldAs (p : PlainProgram) (stale : StaleAt) (at : Span) (kept found : Digest) : Type 0 where
  pub place : at ≡ name_at p stale.number
  pub kept_is : bytes_of kept ≡ stale.kept
  pub found_is : bytes_of found ≡ stale.found

-- bytes within the limit are the text of no certificate, from this line on
pub record IsNoCertificate (bytes : List ℕ) (line : ℕ) : Type 0 where
  pub short : length bytes ≤ certificate_limit
  pub wrong : IsBad bytes line

-- what the bytes of a certificate come to, for a program whose functions have these digests
abbrev pub IsWeighed : PlainProgram → List (List ℕ) → List ℕ → Judgement → Type 0
IsWeighed p digests bytes TooLong = certificate_limit < length bytes
IsWeighed p digests bytes (BadCertificate line) = IsNoCertificate bytes line
IsWeighed p digests bytes (Stale at kept found) = (stale : StaleAt) × IsOfOtherWords digests bytes stale × IsToldAs p stale at kept found
IsWeighed p digests bytes (Failing k at) = IsClaimed p digests bytes (verdicts.Refused k at)
IsWeighed p digests bytes (Accepted bounds) = IsClaimed p digests bytes (verdicts.Accepted bounds)

-- what the file of that name comes to, for a program whose functions have these digests
pub record IsJudged (held : Option (List Named)) (name : List ℕ) (p : PlainProgram) (digests : List (List ℕ)) (j : Judgement) : Type 0 where
  pub bytes : List ℕ
  pub given : Gives held name bytes
  pub weighed : IsWeighed p digests bytes j

-- the judgement by a verdict on a text
abbrev pub judgement_on : TextVerdict → Judgement
judgement_on (said.BadLine line) = BadCertificate line
judgement_on (said.Accepted bounds) = Accepted bounds
judgement_on (said.Refused k at) = Failing k at
judgement_on (said.Stale at kept found) = Stale at kept found
