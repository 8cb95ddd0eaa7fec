-- After an edit `recheck` tells what `verify` tells.
use Rattle.std.specs.Prelude.{◌≡◌, ℕ, false, List, Some}
use Rattle.p10_base.specs.Gathered.{Gathered}
use Rattle.p10_base.specs.declared.report.Bounds.{Bounds}
use Rattle.p10_core.specs.Typed.{PlainProgram}
use Rattle.p10_core.specs.WholePrograms.{IsWholeProgram}
use Rattle.p10_front.specs.Readings.{PlainReading, AreReadAs}
use Rattle.p10_front.specs.Digests.{reading_digests}
use Rattle.p10_check.specs.declared.verdict.Verdict.TheVariants as verdicts
use Rattle.p10_command.specs.Seen.{Seen}
use Rattle.p10_judge.specs.declared.judgement.Judgement.{Judgement}
use Rattle.p10_judge.specs.Judging.{IsClaimed}
use Rattle.p10_rejudge.specs.declared.rejudging.Passed.{Passed}
use Rattle.p10_recheck_command.specs.declared.command.RecheckCommand.{RecheckCommand}
use Rattle.p10_recheck_command.specs.declared.rechecking.Rechecking.TheVariants as rechecking
use Rattle.p10_recheck_command.specs.Told.{BothComeTo}
use Rattle.p10_verify_command.specs.declared.answer.Answer.TheVariants as answer
use Rattle.p10_verify_command.specs.Names.{Names}
use Rattle.p10_verify_command.specs.Answers.{IsRight}
use Rattle.p10_word_views.specs.Words.{DigestsTell}
use Rattle.p10_equal_words.specs.Comparable.{HasDigestEach}

-- sources are read as this, and bytes are a certificate that was accepted for their program, which is whole; it speaks of their words, of those
-- outside of bodies too
pub record WasAcceptedFor (g : Gathered) (r : PlainReading) (bytes : List ℕ) : Type 0 where
  pub program : PlainProgram
  pub read : AreReadAs g r program
  pub whole : IsWholeProgram program
  pub each : HasDigestEach r program
  pub total : Bounds
  pub claimed : IsClaimed program (reading_digests r).funcs bytes (verdicts.Accepted total)
  pub outside : claimed.certificate.ending.outside ≡ Some (reading_digests r).outside

-- what `verify` is asked of the sources and the certificate from after an edit
abbrev pub verified_names : RecheckCommand → Names
verified_names c = record { directories = c.directories; clean = false; certificate = c.certificate; sources = c.sources }

-- where the certificate from before an edit was accepted for sources before it, `recheck` comes to a judgement only where it is right for
-- `verify` to tell that judgement
abbrev pub RecheckTellsAsVerify : Type 0
RecheckTellsAsVerify =
    (seen : Seen) (c : RecheckCommand) (g h : Gathered) (r : PlainReading) (judgement : Judgement) (passed : Passed) → (to : BothComeTo seen.held c h (rechecking.Judged judgement passed))
    → WasAcceptedFor g r to.old → DigestsTell r to.has.has.reading
    → IsRight seen (verified_names c) h (answer.Judged judgement)
