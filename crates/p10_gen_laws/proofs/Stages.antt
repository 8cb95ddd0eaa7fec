-- What is derived is accepted, and has the steps of its run.
use Rattle.std.proofs.Common.{◌≡◌, ℕ, ◌<◌, ◌≤◌, false, List, [], length, sym, ◌∙◌, ap, subst, arith, inl, inr, None}
use Rattle.std.proofs.lemmas.Bool.{cases_order}
use Rattle.std.proofs.lemmas.List.Elements.{All-nil}
use Rattle.p10_base.specs.declared.report.Bounds.{Bounds}
use Rattle.p10_core.specs.Typed.{PlainProgram}
use Rattle.p10_cert.specs.Certificate.{IsCertificate, certificate_text}
use Rattle.p10_cert.specs.Claims.{Claims}
use Rattle.p10_cert.specs.Statements.{plain_statement}
use Rattle.p10_cert.proofs.VersionLaws.{plain_good, plain_text}
use Rattle.p10_check.specs.declared.verdict.Verdict.{Verdict}
use Rattle.p10_check.specs.declared.verdict.Verdict.TheVariants as verdicts
use Rattle.p10_check.specs.Conditions.{IsVerdict}
use Rattle.p10_check.specs.Passes.{Standing}
use Rattle.p10_check.specs.Texts.{claims_in}
use Rattle.p10_check.proofs.TextVerdicts.{claims_back, plain_fresh}
use Rattle.p10_meaning.specs.States.{IsSensorValue}
use Rattle.p10_meaning.specs.Runs.{Outcome, Returned, Turns, Ended}
use Rattle.p10_run.specs.WholeRuns.{world_of}
use Rattle.p10_names.specs.Laws.{ReadingsArePrograms, DerivedCertificatesOfFilesHaveText}
use Rattle.p10_approach.specs.Offers.{no_offers}
use Rattle.p10_acceptance.specs.Laws.{DerivedCertificatesAreAccepted, DerivedCertificatesBoundRuns}
use Rattle.p10_expand.specs.declared.fault.GatherFault.{GatherFault}
use Rattle.p10_expand.specs.declared.fault.GatherFault.TheVariants as fault
use Rattle.p10_expand.specs.Gathering.{Setting}
use Rattle.p10_command.specs.declared.reading.Unread.{Unread}
use Rattle.p10_command.specs.declared.reading.Unread.TheVariants as reading
use Rattle.p10_judge.specs.declared.judgement.Judgement.{Judgement}
use Rattle.p10_judge.specs.declared.judgement.Judgement.TheVariants.{Accepted}
use Rattle.p10_judge.specs.Laws.{OneJudgement}
use Rattle.p10_judge.specs.Loading.{certificate_limit}
use Rattle.p10_gen_command.specs.declared.answer.Answer.{Answer}
use Rattle.p10_gen_command.specs.declared.answer.Answer.TheVariants.{Fails}
use Rattle.p10_gen_command.specs.declared.answer.Stage.TheVariants.{Verifying}
use Rattle.p10_gen_command.specs.Answers.{IsRight, ungathered, unread, shown, out_of_memory, violating, passing, certified, ungathered_answer, unread_answer, ended_answer, judged_answer, outcome_within}
use Rattle.p10_gen_laws.specs.Stages.{TextsAreAccepted, RunsHaveSteps, NoneFailsAtVerifying}

-- what isn't over a limit is within it
not_over : (limit n : ℕ) → (limit < n → ⊥) → n ≤ limit
not_over limit n few = elim (cases_order limit n) [ inl same ↦ omega (arith, same) | inr apart ↦ elim apart [ inl over ↦ absurd (few over) | inr under ↦ omega (arith, under) ] ]

-- the same claims have the same verdict
of_same : (stands : Standing) (p : PlainProgram) (b c : Claims) (v : Verdict) → b ≡ c → IsVerdict stands p b v → IsVerdict stands p c v
of_same stands p b c v same is = subst (λ (d : Claims). IsVerdict stands p d v) same is

pub texts_are_accepted : ReadingsArePrograms → DerivedCertificatesOfFilesHaveText → DerivedCertificatesAreAccepted → OneJudgement → TextsAreAccepted
texts_are_accepted read named accepted one s g p has claims derived judgement weighed =
    let good : IsCertificate claims = named no_offers (λ n f k depth parts l. tt) g p (read g has.reading p has.read) has.whole claims derived in
    one p [] (certificate_text claims) judgement (Accepted claims.total) weighed (record {
      certificate = plain_statement claims;
      read = record { short = not_over certificate_limit (length (certificate_text claims)) derived.text; text_is = sym (plain_text claims); is_certificate = plain_good claims good };
      words = plain_fresh 0 claims.funcs [];
      has = record { ranked = record { ranks = None; are = tt }; is = of_same _ p claims (claims_in (plain_statement claims)) (verdicts.Accepted claims.total) (sym (claims_back claims)) (accepted false p has.whole claims derived) };
    })

pub runs_have_steps : DerivedCertificatesBoundRuns → RunsHaveSteps
runs_have_steps bound p whole claims derived = ((bound false p whole claims derived).every (world_of [] [] 0) (record { input = All-nil (λ byte. byte < 256); sensors = All-nil IsSensorValue }) 1).steps

-- ## Answers of other stages

ungathered_elsewhere : (why : GatherFault) → ungathered_answer why ≡ Fails Verifying → ⊥
ungathered_elsewhere (fault.Over limit) e = cc
ungathered_elsewhere (fault.RootAbsent place) e = cc
ungathered_elsewhere fault.Read e = cc
ungathered_elsewhere (fault.Refused refusal files) e = cc
ungathered_elsewhere fault.Memory e = cc

unread_elsewhere : (why : Unread) → unread_answer why ≡ Fails Verifying → ⊥
unread_elsewhere (reading.Over limit) e = cc
unread_elsewhere (reading.Refused refusal) e = cc

ended_elsewhere : (total : Bounds) (o : Outcome) → ended_answer total o ≡ Fails Verifying → ⊥
ended_elsewhere total (Returned z) e = cc
ended_elsewhere total (Turns n) e = cc
ended_elsewhere total (Ended end) e = cc

pub none_fails_at_verifying : TextsAreAccepted → NoneFailsAtVerifying
none_fails_at_verifying texts s answer (ungathered why fails is) e = ungathered_elsewhere why (sym is ∙ e)
none_fails_at_verifying texts s answer (unread g why gathers reads is) e = unread_elsewhere why (sym is ∙ e)
none_fails_at_verifying texts s answer (shown g p has (violating v derived is)) e = cc
none_fails_at_verifying texts s answer (shown g p has (passing limit derived is)) e = cc
none_fails_at_verifying texts s answer (shown g p has (certified claims judgement derived weighed is)) e =
    let same : judgement ≡ Accepted claims.total = texts s g p has claims derived judgement weighed in
    ended_elsewhere claims.total (outcome_within p claims.total) (sym (is ∙ ap (λ (j : Judgement). judged_answer p claims j) same) ∙ e)
none_fails_at_verifying texts s answer (out_of_memory is) e = cc
