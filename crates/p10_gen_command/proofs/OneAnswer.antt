-- One thing is right to say, unless memory runs out.
use Rattle.std.proofs.Common.{◌≡◌, ◌≢◌, ℕ, [], refl, sym, ◌∙◌, ap, subst, IsSome}
use Rattle.p10_core.specs.Typed.{PlainProgram}
use Rattle.p10_cert.specs.Certificate.{certificate_text}
use Rattle.p10_cert.specs.Claims.{Claims}
use Rattle.p10_expand.specs.Gathering.{Setting}
use Rattle.p10_finder.specs.Answers.{Violating, Over as Passing, Certified}
use Rattle.p10_approach.specs.Offers.{no_offers}
use Rattle.p10_finder.specs.Laws.{DerivesOnce}
use Rattle.p10_front.specs.Laws.{ReadsOnce}
use Rattle.p10_judge.specs.declared.judgement.Judgement.{Judgement}
use Rattle.p10_judge.specs.Judging.{IsWeighed}
use Rattle.p10_judge.specs.Laws.{OneJudgement}
use Rattle.p10_command.specs.Saying.{Saying}
use Rattle.p10_command.proofs.Once.{gathers_or_fails, has_once, one_fault, same_unread, unread_or_program}
use Rattle.p10_gen_command.specs.declared.answer.Answer.{Answer}
use Rattle.p10_gen_command.specs.declared.answer.Answer.TheVariants.{OutOfMemory}
use Rattle.p10_gen_command.specs.Answers.{IsRight, IsShown, certified, judged_answer, out_of_memory, passing, setting_of, shown, ungathered, ungathered_answer, unread, unread_answer, violating}
use Rattle.p10_gen_command.specs.Laws.{GenSaysOneThing}
use Rattle.p10_gen_command.specs.Told.{saying_of, status_of}

-- the laws of the crates below
pub record Laws : Type 0 where
  pub reads : ReadsOnce
  pub derives : DerivesOnce
  pub judges : OneJudgement

-- ## A program

one_shown : Laws → (p : PlainProgram) (this that : Answer) → IsShown p this → IsShown p that → this ≡ that
one_shown laws p this that (violating v derived is) (violating w derived' is') = is ∙ sym is'
one_shown laws p this that (violating v derived is) (passing l derived' is') = absurd (let e = laws.derives no_offers p (Violating v) (Passing l) derived derived' in cc)
one_shown laws p this that (violating v derived is) (certified c j derived' weighed' is') = absurd (let e = laws.derives no_offers p (Violating v) (Certified c) derived derived' in cc)
one_shown laws p this that (passing l derived is) (violating w derived' is') = absurd (let e = laws.derives no_offers p (Passing l) (Violating w) derived derived' in cc)
one_shown laws p this that (passing l derived is) (passing m derived' is') = let e = laws.derives no_offers p (Passing l) (Passing m) derived derived' in cc
one_shown laws p this that (passing l derived is) (certified c j derived' weighed' is') = absurd (let e = laws.derives no_offers p (Passing l) (Certified c) derived derived' in cc)
one_shown laws p this that (certified c j derived weighed is) (violating w derived' is') = absurd (let e = laws.derives no_offers p (Certified c) (Violating w) derived derived' in cc)
one_shown laws p this that (certified c j derived weighed is) (passing m derived' is') = absurd (let e = laws.derives no_offers p (Certified c) (Passing m) derived derived' in cc)
one_shown laws p this that (certified c j derived weighed is) (certified d k derived' weighed' is') =
    let e : Certified c ≡ Certified d = laws.derives no_offers p (Certified c) (Certified d) derived derived' in
    let same : c ≡ d = cc in
    let judged : j ≡ k = laws.judges p [] (certificate_text c) j k weighed (subst (λ (x : Claims). IsWeighed p [] (certificate_text x) k) (sym same) weighed') in
    is ∙ ap (λ (x : Judgement). judged_answer p c x) judged ∙ ap (λ (x : Claims). judged_answer p x k) same ∙ sym is'

-- ## All answers

one_right : Laws → (s : Setting) → IsSome s.held → (this that : Answer) → IsRight s this → IsRight s that → this ≢ OutOfMemory → that ≢ OutOfMemory → this ≡ that
one_right laws s told this that (out_of_memory is) right out out' = absurd (out is)
one_right laws s told this that right (out_of_memory is) out out' = absurd (out' is)
one_right laws s told this that (ungathered why fails is) (ungathered other fails' is') out out' = is ∙ ap ungathered_answer (one_fault s told why other fails fails') ∙ sym is'
one_right laws s told this that (ungathered why fails is) (unread h other gathers' reads' is') out out' = absurd (gathers_or_fails s told h why gathers' fails)
one_right laws s told this that (ungathered why fails is) (shown h q has' shown') out out' = absurd (gathers_or_fails s told h why has'.gathers fails)
one_right laws s told this that (unread g why gathers reads is) (ungathered other fails' is') out out' = absurd (gathers_or_fails s told g other gathers fails')
one_right laws s told this that (unread g why gathers reads is) (unread h other gathers' reads' is') out out' = is ∙ ap unread_answer (same_unread laws.reads s told g h why other gathers reads gathers' reads') ∙ sym is'
one_right laws s told this that (unread g why gathers reads is) (shown h q has' shown') out out' = absurd (unread_or_program laws.reads s told g h why q gathers reads has')
one_right laws s told this that (shown g p has is) (ungathered other fails' is') out out' = absurd (gathers_or_fails s told g other has.gathers fails')
one_right laws s told this that (shown g p has is) (unread h other gathers' reads' is') out out' = absurd (unread_or_program laws.reads s told h g other p gathers' reads' has)
one_right laws s told this that (shown g p has is) (shown h q has' is') out out' =
    one_shown laws p this that is (subst (λ (x : PlainProgram). IsShown x that) (sym (has_once laws.reads s told g h p q has has').program_is) is')

-- an answer whose status isn't 7
in_memory : (n : ℕ) (saying : Saying) (answer : Answer) → saying ≡ saying_of n answer → saying.status ≢ 7 → answer ≢ OutOfMemory
in_memory n saying answer said seven is = seven (ap (λ (s : Saying). s.status) said ∙ ap status_of is)

pub says_one_thing : Laws → GenSaysOneThing
says_one_thing laws n some other says says' seven seven' =
    says.said
    ∙ ap (saying_of n) (one_right laws (setting_of n) refl says.answer says'.answer says.is_right says'.is_right (in_memory n some says.answer says.said seven) (in_memory n other says'.answer says'.said seven'))
    ∙ sym says'.said
