-- What a clean certificate is worth.
use Rattle.std.specs.Prelude.{◌≡◌, ◌≢◌, ℕ}
use Rattle.p10_base.specs.declared.span.Span.{Span}
use Rattle.p10_base.specs.declared.report.Bounds.{Bounds}
use Rattle.p10_int.specs.declared.operators.Stop.{Stop}
use Rattle.p10_core.specs.Typed.{PlainProgram}
use Rattle.p10_core.specs.WholePrograms.{IsWholeProgram}
use Rattle.p10_cert.specs.Claims.{Claims}
use Rattle.p10_meaning.specs.declared.world.World.{World}
use Rattle.p10_meaning.specs.States.{IsWorld, Undefined}
use Rattle.p10_meaning.specs.Runs.{Ended, Ran, run_of}
use Rattle.p10_check.specs.declared.verdict.Verdict.TheVariants.{Accepted}
use Rattle.p10_check.specs.Passes.{Standing}
use Rattle.p10_check.specs.Conditions.{IsVerdict}
use Rattle.p10_turns.specs.Evidence.{stands_by_ranges}
use Rattle.p10_clean.specs.declared.flaw.Clean.TheVariants.{Yes}
use Rattle.p10_clean.specs.Clean.{cleanness}

-- a run doesn't end in an operation that C99 leaves undefined
pub record IsDefined (r : Ran) : Type 0 where
  pub defined : (stop : Stop) (span : Span) → r.outcome ≢ Ended (Undefined stop span)

-- no run of a program with the budgets of the bounds does, in whatever world and after however many turns of the task loop
abbrev pub RunsAreDefined : PlainProgram → Bounds → Type 0
RunsAreDefined p b = (world : World) → IsWorld world → (n : ℕ) → IsDefined (run_of p world b.prefix b.turn n)

-- no run of a whole program ends in one where a certificate is accepted for it and is clean, whatever evidence helped: ranks don't count
-- here, so the evidence needn't even be lawful
abbrev pub CleanCertificatesExcludeUndefined : Type 0
CleanCertificatesExcludeUndefined =
    (p : PlainProgram) → IsWholeProgram p → (stands : Standing) (c : Claims) (b : Bounds) → IsVerdict stands p c (Accepted b) → cleanness p c ≡ Yes → RunsAreDefined p b

-- so it is where the certificate is accepted with the evidence of ranges
abbrev pub CleanCertificatesAcceptedByRangesExcludeUndefined : Type 0
CleanCertificatesAcceptedByRangesExcludeUndefined =
    (p : PlainProgram) → IsWholeProgram p → (c : Claims) (b : Bounds) → IsVerdict (stands_by_ranges p) p c (Accepted b) → cleanness p c ≡ Yes → RunsAreDefined p b
