-- Only one answer is right where files are told: each answer passes the stages before its own, and is
-- refuted by what a later answer passes.
use Rattle.std.proofs.Common.{◌≡◌, ◌≢◌, ℕ, ◌<◌, ◌≤◌, List, refl, sym, ◌∙◌, ap, subst, arith, inl, inr, Option, Some}
use Rattle.std.proofs.lemmas.Bool.{cases_order}
use Rattle.std.proofs.lemmas.Option.{same_Some}
use Rattle.p10_base.specs.Gathered.{Gathered}
use Rattle.p10_world.specs.Files.{Named}
use Rattle.p10_core.specs.Typed.{PlainProgram}
use Rattle.p10_expand.specs.Gathering.{Gathers}
use Rattle.p10_front.specs.Digests.{PlainDigests}
use Rattle.p10_front.specs.Laws.{ReadsOnce}
use Rattle.p10_command.specs.declared.trouble.Trouble.TheVariants.{Read, Memory}
use Rattle.p10_command.specs.Programs.{HasProgram}
use Rattle.p10_command.specs.Saying.{Saying}
use Rattle.p10_command.specs.Seen.{Seen}
use Rattle.p10_command.proofs.Files.{given_is_held, held_or_lacking}
use Rattle.p10_command.proofs.Once as shared
use Rattle.p10_judge.specs.Loading.{IsHeld}
use Rattle.p10_recheck_command.specs.declared.answer.Answer.{Answer}
use Rattle.p10_recheck_command.specs.declared.answer.Answer.TheVariants.{Ungathered, AbsentCertificate, AbsentOld, Unread, Rechecked, Trouble}
use Rattle.p10_recheck_command.specs.declared.command.RecheckCommand.{RecheckCommand}
use Rattle.p10_recheck_command.specs.declared.rechecking.Rechecking.{Rechecking}
use Rattle.p10_recheck_command.specs.Rechecking.{Rechecks}
use Rattle.p10_recheck_command.specs.Told.{SaysRight, BothComeTo, IsRight, rechecked_err, rechecked_out, rechecked_status, saying_of, setting_of, status_of}
use Rattle.p10_recheck_command.proofs.OneRechecking.{Laws, one_rechecking}

-- ## Stages

-- the place of an answer in the order of answers
abbrev number_of : Answer → ℕ
number_of (Ungathered u) = 1
number_of AbsentCertificate = 2
number_of AbsentOld = 3
number_of (Unread u) = 4
number_of (Rechecked to) = 5
number_of (Trouble trouble) = 6

-- what is known where an answer comes after those of a stage
record Passed (r : RecheckCommand) (files : List Named) (number : ℕ) : Type 0 where
  gathered : 1 ≤ number → (g : Gathered) × Gathers (setting_of (Some files) r) g
  certificate : 2 ≤ number → IsHeld (Some files) r.certificate
  since : 3 ≤ number → IsHeld (Some files) r.since
  program : 4 ≤ number → (g : Gathered) × (p : PlainProgram) × HasProgram (setting_of (Some files) r) g p

-- a number that isn't reached
never : {A : Type 0} (least number : ℕ) → number < least → least ≤ number → A
never least number under over = absurd (omega (arith, under, over))

-- ## What each answer passes

abbrev told : List Named → ℕ → ℕ → Seen
told files before after = record { held = Some files; faults_before = before; faults_after = after }

passes : (files : List Named) (before after : ℕ) (r : RecheckCommand) (g : Gathered) (answer : Answer) (number : ℕ) → IsRight (told files before after) r g answer → number < number_of answer → number_of answer ≤ 5 → Passed r files number
passes files before after r g (Ungathered u) number right earlier plain =
    record { gathered = never 1 number (omega (arith, earlier)); certificate = never 2 number (omega (arith, earlier)); since = never 3 number (omega (arith, earlier)); program = never 4 number (omega (arith, earlier)) }
passes files before after r g AbsentCertificate number (gathers, lacks) earlier plain =
    record { gathered = λ at. (g, gathers); certificate = never 2 number (omega (arith, earlier)); since = never 3 number (omega (arith, earlier)); program = never 4 number (omega (arith, earlier)) }
passes files before after r g AbsentOld number (gathers, held, lacks) earlier plain = record { gathered = λ at. (g, gathers); certificate = λ at. held; since = never 3 number (omega (arith, earlier)); program = never 4 number (omega (arith, earlier)) }
passes files before after r g (Unread u) number (gathers, held, since, unread) earlier plain = record { gathered = λ at. (g, gathers); certificate = λ at. held; since = λ at. since; program = never 4 number (omega (arith, earlier)) }
passes files before after r g (Rechecked to) number right earlier plain = record {
  gathered = λ at. (g, right.has.has.gathers);
  certificate = λ at. given_is_held (Some files) r.certificate right.new right.new_given;
  since = λ at. given_is_held (Some files) r.since right.old right.old_given;
  program = λ at. (g, right.program, right.has.has);
}
passes files before after r g (Trouble trouble) number right earlier plain = absurd (omega (arith, plain))

-- ## What refutes each answer

stops : ReadsOnce → (files : List Named) (before after : ℕ) (r : RecheckCommand) (g : Gathered) (answer : Answer) → IsRight (told files before after) r g answer → number_of answer ≤ 5 → Passed r files (number_of answer) → number_of answer < 5 → ⊥
stops once files before after r g (Ungathered u) right plain passed earlier =
    let other = passed.gathered (omega arith) in shared.gathered_or_not (setting_of (Some files) r) refl other.0 g u other.1 right
stops once files before after r g AbsentCertificate (gathers, lacks) plain passed earlier = held_or_lacking (Some files) refl r.certificate (passed.certificate (omega arith)) lacks
stops once files before after r g AbsentOld (gathers, held, lacks) plain passed earlier = held_or_lacking (Some files) refl r.since (passed.since (omega arith)) lacks
stops once files before after r g (Unread u) (gathers, held, since, unread) plain passed earlier =
    let (h, p, program) = passed.program (omega arith) in
    shared.unread_or_program once (setting_of (Some files) r) refl g h u p gathers unread program
stops once files before after r g (Rechecked to) right plain passed earlier = absurd (omega (arith, earlier))
stops once files before after r g (Trouble trouble) right plain passed earlier = absurd (omega (arith, plain))

-- ## One answer

-- what is said of what both certificates come to
said_of : Gathered → Rechecking → Saying
said_of g to = record { status = rechecked_status to; out = rechecked_out g to; err = rechecked_err to }

-- of one command's certificates one thing is said
same_rechecking : Laws → ReadsOnce → (files : List Named) (r : RecheckCommand) (g h : Gathered) (this that : Rechecking) → BothComeTo (Some files) r g this → BothComeTo (Some files) r h that → said_of g this ≡ said_of h that
unfolding said_of
same_rechecking laws once files r g h this that is is' =
    let same = shared.has_digests_once once (setting_of (Some files) r) refl g h is.program is'.program is.digests is'.digests is.has is'.has in
    let new : is.new ≡ is'.new = same_Some is.new is'.new (sym is.new_given ∙ is'.new_given) in
    let old : is.old ≡ is'.old = same_Some is.old is'.old (sym is.old_given ∙ is'.old_given) in
    let here : Rechecks is'.program is'.digests is'.new is'.old this =
    subst (λ (b : List ℕ). Rechecks is'.program is'.digests is'.new b this) old
    (subst (λ (b : List ℕ). Rechecks is'.program is'.digests b is.old this) new
    (subst (λ (d : PlainDigests). Rechecks is'.program d is.new is.old this) same.digests_are (subst (λ (p : PlainProgram). Rechecks p is.digests is.new is.old this) same.program_is is.is))) in
    let one : this ≡ that = one_rechecking laws is'.program is'.digests is'.new is'.old this that here is'.is in
    λ i. said_of (same.sources_are i) (one i)

-- two answers at one place say the same
same_place : Laws → ReadsOnce → (files : List Named) (before after : ℕ) (r : RecheckCommand) (g h : Gathered) (a b : Answer) → IsRight (told files before after) r g a → IsRight (told files before after) r h b → number_of a ≡ number_of b → number_of a ≤ 5 → saying_of r g a ≡ saying_of r h b
unfolding said_of
same_place laws once files before after r g h (Ungathered u) (Ungathered v) right right' same plain = shared.one_ungathered (setting_of (Some files) r) refl r.sources g h u v right right'
same_place laws once files before after r g h AbsentCertificate AbsentCertificate right right' same plain = refl
same_place laws once files before after r g h AbsentOld AbsentOld right right' same plain = refl
same_place laws once files before after r g h (Unread u) (Unread v) (gathers, held, since, unread) (gathers', held', since', unread') same plain =
    shared.one_unread_saying once (setting_of (Some files) r) refl g h u v gathers unread gathers' unread'
same_place laws once files before after r g h (Rechecked this) (Rechecked that) right right' same plain = same_rechecking laws once files r g h this that right right'
same_place laws once files before after r g h (Ungathered u) _ right right' same plain = absurd (omega (arith, same))
same_place laws once files before after r g h AbsentCertificate _ right right' same plain = absurd (omega (arith, same))
same_place laws once files before after r g h AbsentOld _ right right' same plain = absurd (omega (arith, same))
same_place laws once files before after r g h (Unread u) _ right right' same plain = absurd (omega (arith, same))
same_place laws once files before after r g h (Rechecked to) _ right right' same plain = absurd (omega (arith, same))
same_place laws once files before after r g h (Trouble trouble) _ right right' same plain = absurd (omega (arith, plain))

one_answer : Laws → ReadsOnce → (files : List Named) (before after : ℕ) (r : RecheckCommand) (g h : Gathered) (a b : Answer) → IsRight (told files before after) r g a → IsRight (told files before after) r h b → number_of a ≤ 5 → number_of b ≤ 5 → saying_of r g a ≡ saying_of r h b
one_answer laws once files before after r g h a b right right' plain plain' =
    elim (cases_order (number_of a) (number_of b)) [
      | inl same ↦ same_place laws once files before after r g h a b right right' same plain
      | inr apart ↦ elim apart [
        | inl lower ↦ absurd (stops once files before after r g a right plain (passes files before after r h b (number_of a) right' lower plain') (omega (arith, lower, plain')))
        | inr upper ↦ absurd (stops once files before after r h b right' plain' (passes files before after r g a (number_of b) right upper plain) (omega (arith, upper, plain)))
      ]
    ]

-- an answer that is neither a read fault nor out of memory
plain_answer : (answer : Answer) → status_of answer ≢ 5 → status_of answer ≢ 7 → number_of answer ≤ 5
plain_answer (Ungathered u) five seven = omega arith
plain_answer AbsentCertificate five seven = omega arith
plain_answer AbsentOld five seven = omega arith
plain_answer (Unread u) five seven = omega arith
plain_answer (Rechecked to) five seven = omega arith
plain_answer (Trouble Read) five seven = absurd (five refl)
plain_answer (Trouble Memory) five seven = absurd (seven refl)

says_right : Laws → ReadsOnce → (files : List Named) (before after : ℕ) (r : RecheckCommand) (some other : Saying) → SaysRight r (told files before after) some → SaysRight r (told files before after) other → some.status ≢ 5 → some.status ≢ 7 → other.status ≢ 5 → other.status ≢ 7 → some ≡ other
says_right laws once files before after r some other s o five seven five' seven' =
    let plain = plain_answer s.answer (λ is. five (ap (λ (y : Saying). y.status) s.said ∙ is)) (λ is. seven (ap (λ (y : Saying). y.status) s.said ∙ is)) in
    let plain' = plain_answer o.answer (λ is. five' (ap (λ (y : Saying). y.status) o.said ∙ is)) (λ is. seven' (ap (λ (y : Saying). y.status) o.said ∙ is)) in
    s.said ∙ one_answer laws once files before after r s.sources o.sources s.answer o.answer s.is_right o.is_right plain plain' ∙ sym o.said

with_held : Option (List Named) → Seen → Seen
with_held held seen = record { held = held; faults_before = seen.faults_before; faults_after = seen.faults_after }

pub says_one_thing : Laws → ReadsOnce → (r : RecheckCommand) (seen : Seen) (files : List Named) (some other : Saying) → seen.held ≡ Some files → SaysRight r seen some → SaysRight r seen other → some.status ≢ 5 → some.status ≢ 7 → other.status ≢ 5 → other.status ≢ 7 → some ≡ other
unfolding with_held
says_one_thing laws once r seen files some other held right right' five seven five' seven' =
    let same : seen ≡ told files seen.faults_before seen.faults_after = ap (λ (h : Option (List Named)). with_held h seen) held in
    says_right laws once files seen.faults_before seen.faults_after r some other (subst (λ (s : Seen). SaysRight r s some) same right) (subst (λ (s : Seen). SaysRight r s other) same right') five seven five' seven'
