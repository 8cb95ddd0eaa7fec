-- What comes of a certificate that is derived of sources, and the stages of `gen` at which no program fails.
use Rattle.std.specs.Prelude.{◌≡◌, ◌≢◌, []}
use Rattle.p10_base.specs.Gathered.{Gathered}
use Rattle.p10_core.specs.Typed.{PlainProgram}
use Rattle.p10_core.specs.WholePrograms.{IsWholeProgram}
use Rattle.p10_cert.specs.Certificate.{certificate_text}
use Rattle.p10_cert.specs.Claims.{Claims}
use Rattle.p10_meaning.specs.States.{StepsSpent}
use Rattle.p10_meaning.specs.Runs.{Ended}
use Rattle.p10_approach.specs.Offers.{no_offers}
use Rattle.p10_finder.specs.Answers.{Certified, IsDerived}
use Rattle.p10_expand.specs.Gathering.{Setting}
use Rattle.p10_command.specs.Programs.{HasProgram}
use Rattle.p10_judge.specs.declared.judgement.Judgement.{Judgement}
use Rattle.p10_judge.specs.declared.judgement.Judgement.TheVariants.{Accepted}
use Rattle.p10_judge.specs.Judging.{IsWeighed}
use Rattle.p10_gen_command.specs.declared.answer.Answer.{Answer}
use Rattle.p10_gen_command.specs.declared.answer.Answer.TheVariants.{Fails}
use Rattle.p10_gen_command.specs.declared.answer.Stage.TheVariants.{Verifying}
use Rattle.p10_gen_command.specs.Answers.{IsRight, outcome_within}

-- the text of a certificate that is derived of the program of sources is accepted with its total, and comes to nothing else
abbrev pub TextsAreAccepted : Type 0
TextsAreAccepted =
    (s : Setting) (g : Gathered) (p : PlainProgram) → HasProgram s g p → (claims : Claims) → IsDerived no_offers p (Certified claims) → (judgement : Judgement) → IsWeighed p [] (certificate_text claims) judgement →
    judgement ≡ Accepted claims.total

-- a run within it, without input and without values of sensors, doesn't end for want of steps
abbrev pub RunsHaveSteps : Type 0
RunsHaveSteps = (p : PlainProgram) → IsWholeProgram p → (claims : Claims) → IsDerived no_offers p (Certified claims) → outcome_within p claims.total ≢ Ended StepsSpent

-- so it isn't right to answer that the certificate is refused, however the sources are gathered
abbrev pub NoneFailsAtVerifying : Type 0
NoneFailsAtVerifying = (s : Setting) (answer : Answer) → IsRight s answer → answer ≢ Fails Verifying
