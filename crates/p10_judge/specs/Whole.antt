-- What a certificate comes to, for a program, with the claims of one that is accepted.
use Rattle.std.specs.Prelude.{ℕ, ◌≡◌, List, None}
use Rattle.p10_core.specs.Typed.{PlainProgram}
use Rattle.p10_cert.specs.Claims.{Claims, claims_of}
use Rattle.p10_cert.specs.Statements.{Statement}
use Rattle.p10_check.specs.declared.verdict.Verdict.TheVariants as verdicts
use Rattle.p10_check.specs.Texts.{claims_in, first_stale}
use Rattle.p10_judge.specs.declared.judgement.Judgement.{Judgement}
use Rattle.p10_judge.specs.declared.judgement.Judgement.TheVariants.{Accepted}
use Rattle.p10_judge.specs.declared.whole.Weighed.{Weighed}
use Rattle.p10_judge.specs.declared.whole.Weighed.TheVariants as whole
use Rattle.p10_judge.specs.Judging.{HasVerdict, IsCertificateOf, IsWeighed}

-- bytes are the text of a certificate with these claims, which speaks of these words and is accepted for a program
pub record IsAcceptedText (p : PlainProgram) (digests : List (List ℕ)) (bytes : List ℕ) (c : Claims) : Type 0 where
  pub certificate : Statement
  pub read : IsCertificateOf bytes certificate
  pub words : first_stale 0 certificate.entries digests ≡ None
  pub claims_are : c ≡ claims_in certificate
  pub has : HasVerdict p certificate (verdicts.Accepted c.total)

-- a judgement that a certificate isn't accepted
abbrev pub IsNotAccepted : Judgement → Type 0
IsNotAccepted (Accepted bounds) = ⊥
IsNotAccepted judgement = Unit {0}

-- what the bytes of a certificate come to
abbrev pub IsWeighedWhole : PlainProgram → List (List ℕ) → List ℕ → Weighed → Type 0
IsWeighedWhole p digests bytes (whole.Accepted c) = IsAcceptedText p digests bytes (claims_of c)
IsWeighedWhole p digests bytes (whole.Refused judgement) = IsWeighed p digests bytes judgement × IsNotAccepted judgement
