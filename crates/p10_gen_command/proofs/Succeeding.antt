-- What the statuses say.
use Rattle.std.proofs.Common.{◌≡◌, ℕ, [], sym, ◌∙◌, ap, inl, inr, arith}
use Rattle.std.specs.Prelude.{◌⊎◌, ℤ}
use Rattle.p10_base.specs.declared.report.Bounds.{Bounds}
use Rattle.p10_core.specs.Typed.{PlainProgram}
use Rattle.p10_cert.specs.Certificate.{certificate_text}
use Rattle.p10_cert.specs.Claims.{Claims}
use Rattle.p10_expand.specs.declared.fault.GatherFault.{GatherFault}
use Rattle.p10_expand.specs.declared.fault.GatherFault.TheVariants as fault
use Rattle.p10_approach.specs.Offers.{no_offers}
use Rattle.p10_finder.specs.Answers.{Certified, IsDerived}
use Rattle.p10_judge.specs.declared.judgement.Judgement.{Judgement}
use Rattle.p10_judge.specs.declared.judgement.Judgement.TheVariants.{TooLong, BadCertificate, Stale, Failing, Accepted}
use Rattle.p10_judge.specs.Judging.{IsWeighed}
use Rattle.p10_command.specs.Programs.{HasProgram}
use Rattle.p10_meaning.specs.Runs.{Outcome, Returned, Turns, Ended}
use Rattle.p10_command.specs.declared.reading.Unread.{Unread}
use Rattle.p10_command.specs.declared.reading.Unread.TheVariants as reading
use Rattle.p10_command.specs.Saying.{Saying}
use Rattle.p10_gen_command.specs.declared.answer.Answer.{Answer}
use Rattle.p10_gen_command.specs.declared.answer.Answer.TheVariants.{Over, Fails, Returns, OutOfMemory}
use Rattle.p10_gen_command.specs.Answers.{IsRight, IsShown, certified, ended_answer, judged_answer, out_of_memory, outcome_within, passing, setting_of, shown, ungathered, ungathered_answer, unread, unread_answer, violating}
use Rattle.p10_gen_command.specs.Laws.{GenHasFewStatuses, SuccessIsTold, TellsReturn}
use Rattle.p10_gen_command.specs.Told.{saying_of, status_of}

-- ## Few statuses

few_for : (answer : Answer) (status : ℕ) → status ≡ status_of answer → (status ≡ 0) ⊎ (status ≡ 1) ⊎ (status ≡ 7) ⊎ (status ≡ 8)
few_for (Over limit) status is = inr (inr (inr is))
few_for (Fails stage) status is = inr (inl is)
few_for (Returns total value) status is = inl is
few_for OutOfMemory status is = inr (inr (inl is))

pub few : GenHasFewStatuses
few n saying says = few_for says.answer saying.status (ap (λ (s : Saying). s.status) says.said)

-- ## Success

not_ungathered : (why : GatherFault) (total : Bounds) (value : ℤ) → Returns total value ≡ ungathered_answer why → ⊥
not_ungathered (fault.RootAbsent place) total value is = cc
not_ungathered (fault.Refused refusal g) total value is = cc
not_ungathered (fault.Over limit) total value is = cc
not_ungathered fault.Read total value is = cc
not_ungathered fault.Memory total value is = cc

not_unread : (why : Unread) (total : Bounds) (value : ℤ) → Returns total value ≡ unread_answer why → ⊥
not_unread (reading.Refused refusal) total value is = cc
not_unread (reading.Over limit) total value is = cc

-- the run that an answer reports
record HasReturned (total other : Bounds) (value : ℤ) (outcome : Outcome) : Type 0 where
  same : total ≡ other
  is : outcome ≡ Returned value

returned_by : (total other : Bounds) (value : ℤ) (outcome : Outcome) → Returns total value ≡ ended_answer other outcome → HasReturned total other value outcome
returned_by total other value (Returned v) is = record { same = cc; is = cc }
returned_by total other value (Turns n) is = absurd (cc)
returned_by total other value (Ended end) is = absurd (cc)

by_judgement : (n : ℕ) (g : _) (p : PlainProgram) (claims : Claims) (judgement : Judgement) (total : Bounds) (value : ℤ) → HasProgram (setting_of n) g p → IsDerived no_offers p (Certified claims) → IsWeighed p [] (certificate_text claims) judgement
    → Returns total value ≡ judged_answer p claims judgement → (saying : Saying) → saying ≡ saying_of n (Returns total value) → TellsReturn n saying
by_judgement n g p claims TooLong total value has derived weighed is saying said = absurd (cc)
by_judgement n g p claims (BadCertificate line) total value has derived weighed is saying said = absurd (cc)
by_judgement n g p claims (Stale at kept found) total value has derived weighed is saying said = absurd (cc)
by_judgement n g p claims (Failing k at) total value has derived weighed is saying said = absurd (cc)
by_judgement n g p claims (Accepted bounds) total value has derived weighed is saying said =
    let run = returned_by total claims.total value (outcome_within p bounds) is in
    record {
      files = g;
      program = p;
      claims = claims;
      bounds = bounds;
      value = value;
      has = has;
      derived = derived;
      accepted = weighed;
      returned = run.is;
      on_out = ap (λ (s : Saying). s.out) said ∙ ap (λ (t : Bounds). (saying_of n (Returns t value)).out) run.same;
      on_err = ap (λ (s : Saying). s.err) said;
    }

by_shown : (n : ℕ) (g : _) (p : PlainProgram) (total : Bounds) (value : ℤ) → HasProgram (setting_of n) g p → IsShown p (Returns total value) → (saying : Saying) → saying ≡ saying_of n (Returns total value) → TellsReturn n saying
by_shown n g p total value has (violating v derived is) saying said = absurd (cc)
by_shown n g p total value has (passing l derived is) saying said = absurd (cc)
by_shown n g p total value has (certified claims judgement derived weighed is) saying said = by_judgement n g p claims judgement total value has derived weighed is saying said

by_right : (n : ℕ) (total : Bounds) (value : ℤ) → IsRight (setting_of n) (Returns total value) → (saying : Saying) → saying ≡ saying_of n (Returns total value) → TellsReturn n saying
by_right n total value (ungathered why fails is) saying said = absurd (not_ungathered why total value is)
by_right n total value (unread g why gathers reads is) saying said = absurd (not_unread why total value is)
by_right n total value (shown g p has is) saying said = by_shown n g p total value has is saying said
by_right n total value (out_of_memory is) saying said = absurd (cc)

by_answer : (n : ℕ) (saying : Saying) (answer : Answer) → IsRight (setting_of n) answer → saying ≡ saying_of n answer → saying.status ≡ 0 → TellsReturn n saying
by_answer n saying (Over limit) right said zero = absurd (let e = sym (ap (λ (s : Saying). s.status) said) ∙ zero in omega (arith, e))
by_answer n saying (Fails stage) right said zero = absurd (let e = sym (ap (λ (s : Saying). s.status) said) ∙ zero in omega (arith, e))
by_answer n saying OutOfMemory right said zero = absurd (let e = sym (ap (λ (s : Saying). s.status) said) ∙ zero in omega (arith, e))
by_answer n saying (Returns total value) right said zero = by_right n total value right saying said

pub success : SuccessIsTold
success n saying says zero = by_answer n saying says.answer says.is_right says.said zero
