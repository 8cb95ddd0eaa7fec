-- What derivation, verification and a run come to.
use Rattle.std.proofs.Common.{◌≡◌, ℕ, List, [], refl, sym, ◌∙◌, subst, ap, Option, Some, IsSomeAnd, Result, Ok, Err, IfOk}
use Rattle.p10_base.specs.declared.report.Bounds.{Bounds}
use Rattle.p10_base.specs.declared.report.Limit.{Limit}
use Rattle.p10_core.specs.declared.program.Program.{Program}
use Rattle.p10_core.specs.Typed.{PlainProgram}
use Rattle.p10_core.specs.Views.{plain_program}
use Rattle.p10_cert.specs.declared.claims.Cert.{Cert}
use Rattle.p10_cert.specs.Certificate.{certificate_text}
use Rattle.p10_cert.specs.Claims.{Claims, claims_of}
use Rattle.p10_approach.specs.Offers.{no_offers}
use Rattle.p10_finder.specs.declared.found.Found.{Found}
use Rattle.p10_finder.specs.declared.found.Found.TheVariants.{Certificate, Violations}
use Rattle.p10_finder.specs.declared.found.FinderFault.{FinderFault}
use Rattle.p10_finder.specs.declared.found.FinderFault.TheVariants as finder
use Rattle.p10_finder.specs.Answers.{IsDerived}
use Rattle.p10_finder.specs.Finding.{IsFault, derived_of}
use Rattle.p10_judge.specs.declared.judgement.Judgement.{Judgement}
use Rattle.p10_judge.specs.Judging.{IsWeighed}
use Rattle.p10_run.specs.declared.finished.FinishedRun.{FinishedRun}
use Rattle.p10_run.specs.Budgets.{budget_within}
use Rattle.p10_run.specs.WholeRuns.{IsRun, outcome_of, run_with}
use Rattle.p10_gen_command.specs.declared.answer.Answer.{Answer}
use Rattle.p10_gen_command.specs.declared.answer.Answer.TheVariants.{Over, Fails}
use Rattle.p10_gen_command.specs.declared.answer.Stage.TheVariants.{Deriving}
use Rattle.p10_gen_command.specs.Answers.{IsShown, certified, judged_answer, outcome_within, passing, violating}
use Rattle.p10_gen_command.specs.private.Deciding.{IsJudged}

-- what comes of the program of a reading
pub of_reading : {E : Type 0} (o : Option Program) (program : Program) (r : Result Answer E) → o ≡ Some program → IfOk r (IsShown (plain_program program)) → IfOk r (λ answer. IsSomeAnd o (λ p. IsShown (plain_program p) answer))
of_reading o program r is shown = subst (λ (x : Option Program). IfOk r (λ answer. IsSomeAnd x (λ p. IsShown (plain_program p) answer))) (sym is) shown

-- ## Derivation

pub certificate_shown : {E : Type 0} (p : PlainProgram) (found : Found) (certificate : Cert) (r : Result Answer E) → found ≡ Certificate certificate → IsDerived no_offers p (derived_of found) → IfOk r (IsJudged p (claims_of certificate)) → IfOk r (IsShown p)
certificate_shown p found certificate (Err e) is derived judged = tt
certificate_shown p found certificate (Ok answer) is derived judged = certified (claims_of certificate) judged.judgement (subst (λ (f : Found). IsDerived no_offers p (derived_of f)) is derived) judged.weighed judged.is

pub violations_shown : (p : PlainProgram) (found : Found) → IsDerived no_offers p (derived_of found) → (violations : _) → found ≡ Violations violations → IsShown p (Fails Deriving)
violations_shown p found derived violations is = violating violations.items (subst (λ (f : Found). IsDerived no_offers p (derived_of f)) is derived) refl

pub limit_shown : (p : PlainProgram) (fault : FinderFault) (limit : Limit) → fault ≡ finder.Over limit → IsFault no_offers p fault → IsShown p (Over limit)
limit_shown p fault limit is over = passing limit (subst (λ (f : FinderFault). IsFault no_offers p f) is over) refl
