-- What an accepted certificate is worth.
use Rattle.p10_base.specs.declared.report.Bounds.{Bounds}
use Rattle.p10_core.specs.Typed.{PlainProgram}
use Rattle.p10_core.specs.WholePrograms.{IsWholeProgram}
use Rattle.p10_cert.specs.Claims.{Claims}
use Rattle.p10_meaning.specs.Runs.{Within}
use Rattle.p10_check.specs.declared.verdict.Verdict.TheVariants.{Accepted}
use Rattle.p10_check.specs.Passes.{Standing}
use Rattle.p10_check.specs.Conditions.{IsVerdict}
use Rattle.p10_turns.specs.Evidence.{stands_by_ranges}
use Rattle.p10_turns.specs.Laws.{IsLawful}

-- a certificate that is accepted for a whole program bounds every run of it, whatever evidence helped, if that is lawful
abbrev pub AcceptedCertificatesBoundRuns : Type 0
AcceptedCertificatesBoundRuns =
    (p : PlainProgram) → IsWholeProgram p → (stands : Standing) → IsLawful p stands → (c : Claims) (b : Bounds) → IsVerdict stands p c (Accepted b) → Within p b

-- so does one that is accepted with the evidence of ranges
abbrev pub CertificatesAcceptedByRangesBoundRuns : Type 0
CertificatesAcceptedByRangesBoundRuns = (p : PlainProgram) → IsWholeProgram p → (c : Claims) (b : Bounds) → IsVerdict (stands_by_ranges p) p c (Accepted b) → Within p b
