-- Judgements by verdicts.
use Rattle.std.specs.Prelude.{◌≡◌, ◌≤◌, ℕ, List, length}
use Rattle.p10_core.specs.Typed.{PlainProgram}
use Rattle.p10_cert.specs.declared.claims.Cert.{Cert}
use Rattle.p10_cert.specs.Claims.{claims_of}
use Rattle.p10_check.specs.Conditions.{IsVerdict}
use Rattle.p10_check.specs.Passes.{Standing}
use Rattle.p10_check.specs.declared.verdict.Verdict.{Verdict}
use Rattle.p10_check.specs.declared.verdict.Verdict.TheVariants as verdicts
use Rattle.p10_judge.specs.declared.judgement.Judgement.{Judgement}
use Rattle.p10_judge.specs.declared.judgement.Judgement.TheVariants.{Failing, Accepted}
use Rattle.p10_judge.specs.declared.whole.Weighed.{Weighed}
use Rattle.p10_judge.specs.declared.whole.Weighed.TheVariants as whole
use Rattle.p10_judge.specs.Loading.{certificate_limit}

-- the judgement by a verdict on claims
abbrev pub judgement_by : Verdict → Judgement
judgement_by (verdicts.Refused k at) = Failing k at
judgement_by (verdicts.Accepted bounds) = Accepted bounds

-- bytes are within the limit
abbrev pub IsShort : List ℕ → Type 0
IsShort bytes = length bytes ≤ certificate_limit

-- what claims come to by their verdict
abbrev pub weighed_by : Cert → Verdict → Weighed
weighed_by c (verdicts.Refused k at) = whole.Refused (Failing k at)
weighed_by c (verdicts.Accepted bounds) = whole.Accepted c

-- what these claims come to for a program, by what stands for its loops
pub record IsTried (stands : Standing) (p : PlainProgram) (c : Cert) (weighed : Weighed) : Type 0 where
  pub verdict : Verdict
  pub has : IsVerdict stands p (claims_of c) verdict
  pub is : weighed ≡ weighed_by c verdict
