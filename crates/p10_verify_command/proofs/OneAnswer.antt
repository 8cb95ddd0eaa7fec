-- Only one answer is right where files are told: each answer passes the stages before its own, and is
-- refuted by what a later answer passes.
use Rattle.std.proofs.Common.{◌≡◌, ◌≢◌, ℕ, ◌<◌, ◌≤◌, List, refl, sym, ◌∙◌, ap, subst, arith, inl, inr, Some, true, false}
use Rattle.std.proofs.lemmas.Bool.{cases_order}
use Rattle.std.proofs.lemmas.Option.{same_Some}
use Rattle.p10_base.specs.declared.report.Bounds.{Bounds}
use Rattle.p10_base.specs.Gathered.{Gathered}
use Rattle.p10_world.specs.Files.{Named}
use Rattle.p10_core.specs.Typed.{PlainProgram}
use Rattle.p10_cert.specs.Claims.{Claims}
use Rattle.p10_cert.specs.Laws.{TextTellsStatement}
use Rattle.p10_check.specs.Texts.{claims_in}
use Rattle.p10_clean.specs.declared.flaw.Clean.{Clean as Cleanness}
use Rattle.p10_clean.specs.declared.flaw.Clean.TheVariants.{Yes, No}
use Rattle.p10_clean.specs.Clean.{cleanness}
use Rattle.p10_expand.specs.Gathering.{Gathers}
use Rattle.p10_front.specs.Digests.{reading_digests}
use Rattle.p10_front.specs.Laws.{ReadsOnce}
use Rattle.p10_front.specs.Readings.{PlainReading}
use Rattle.p10_command.specs.declared.trouble.Trouble.TheVariants.{Read, Memory}
use Rattle.p10_command.specs.Programs.{HasProgram}
use Rattle.p10_command.specs.Saying.{Saying}
use Rattle.p10_command.specs.Seen.{Seen}
use Rattle.p10_command.proofs.Once as shared
use Rattle.p10_judge.specs.declared.judgement.Judgement.{Judgement}
use Rattle.p10_judge.specs.declared.judgement.Judgement.TheVariants.{TooLong, BadCertificate, Failing, Accepted}
use Rattle.p10_judge.specs.Judging.{IsJudged}
use Rattle.p10_judge.specs.Laws.{OneJudgement}
use Rattle.p10_judge.specs.Loading.{IsHeld}
use Rattle.p10_judge.proofs.Once.{held_or_lacking, judged_is_held, judged_once}
use Rattle.p10_verify_command.specs.declared.answer.Answer.{Answer}
use Rattle.p10_verify_command.specs.declared.answer.Answer.TheVariants.{Ungathered, AbsentCertificate, Unread, Judged, Unclean, Clean, Trouble}
use Rattle.p10_verify_command.specs.Names.{Names}
use Rattle.p10_verify_command.specs.Answers.{IsEnough, IsRight, HasCleanness, setting_of}
use Rattle.p10_verify_command.specs.Told.{SaysRight, saying_of, status_of}
use Rattle.p10_verify_command.specs.private.Deciding.{cleaned}

-- ## Stages

-- the place of an answer in the order of answers
abbrev number_of : Answer → ℕ
number_of (Ungathered u) = 1
number_of AbsentCertificate = 2
number_of (Unread u) = 3
number_of (Judged j) = 4
number_of (Unclean c at) = 4
number_of (Clean bounds) = 4
number_of (Trouble trouble) = 5

-- what is known where an answer comes after those of a stage
record Passed (names : Names) (files : List Named) (number : ℕ) : Type 0 where
  gathered : 1 ≤ number → (g : Gathered) × Gathers (setting_of (Some files) names) g
  certificate : 2 ≤ number → IsHeld (Some files) names.certificate
  program : 3 ≤ number → (g : Gathered) × (p : PlainProgram) × HasProgram (setting_of (Some files) names) g p

-- a number that isn't reached
never : {A : Type 0} (least number : ℕ) → number < least → least ≤ number → A
never least number under over = absurd (omega (arith, under, over))

-- ## What each answer passes

abbrev told : List Named → ℕ → ℕ → Seen
told files before after = record { held = Some files; faults_before = before; faults_after = after }

-- the certificate of claims that are tried is accepted
judged_of : (files : List Named) (names : Names) (g : Gathered) (bounds : Bounds) (said : Cleanness) → (tried : HasCleanness (Some files) names g bounds said) → IsJudged (Some files) names.certificate tried.program (reading_digests tried.has.reading).funcs (Accepted bounds)
judged_of files names g bounds said tried = record { bytes = tried.bytes; given = tried.given; weighed = tried.accepted.claimed }

passes_tried : (files : List Named) (names : Names) (g : Gathered) (bounds : Bounds) (said : Cleanness) (number : ℕ) → HasCleanness (Some files) names g bounds said → Passed names files number
passes_tried files names g bounds said number tried = record {
  gathered = λ at. (g, tried.has.gathers);
  certificate = λ at. judged_is_held (Some files) names.certificate tried.program (reading_digests tried.has.reading).funcs (Accepted bounds) (judged_of files names g bounds said tried);
  program = λ at. (g, tried.program, tried.has);
}

passes : (files : List Named) (before after : ℕ) (names : Names) (g : Gathered) (answer : Answer) (number : ℕ) → IsRight (told files before after) names g answer → number < number_of answer → number_of answer ≤ 4 → Passed names files number
passes files before after names g (Ungathered u) number right earlier plain = record { gathered = never 1 number (omega (arith, earlier)); certificate = never 2 number (omega (arith, earlier)); program = never 3 number (omega (arith, earlier)) }
passes files before after names g AbsentCertificate number (gathers, lacks) earlier plain = record { gathered = λ at. (g, gathers); certificate = never 2 number (omega (arith, earlier)); program = never 3 number (omega (arith, earlier)) }
passes files before after names g (Unread u) number (gathers, held, unread) earlier plain = record { gathered = λ at. (g, gathers); certificate = λ at. held; program = never 3 number (omega (arith, earlier)) }
passes files before after names g (Judged j) number (p, program, judged, enough) earlier plain = record {
  gathered = λ at. (g, program.gathers);
  certificate = λ at. judged_is_held (Some files) names.certificate p (reading_digests program.reading).funcs j judged;
  program = λ at. (g, p, program);
}
passes files before after names g (Unclean c at) number (bounds, tried) earlier plain = passes_tried files names g bounds (No c at) number tried
passes files before after names g (Clean bounds) number tried earlier plain = passes_tried files names g bounds Yes number tried
passes files before after names g (Trouble trouble) number right earlier plain = absurd (omega (arith, plain))

-- ## What refutes each answer

stops : ReadsOnce → (files : List Named) (before after : ℕ) (names : Names) (g : Gathered) (answer : Answer) → IsRight (told files before after) names g answer → number_of answer ≤ 4 → Passed names files (number_of answer) → number_of answer < 4 → ⊥
stops once files before after names g (Ungathered u) right plain passed earlier =
    let other = passed.gathered (omega arith) in shared.gathered_or_not (setting_of (Some files) names) refl other.0 g u other.1 right
stops once files before after names g AbsentCertificate (gathers, lacks) plain passed earlier = held_or_lacking (Some files) refl names.certificate (passed.certificate (omega arith)) lacks
stops once files before after names g (Unread u) (gathers, held, unread) plain passed earlier =
    let (h, p, program) = passed.program (omega arith) in
    shared.unread_or_program once (setting_of (Some files) names) refl g h u p gathers unread program
stops once files before after names g (Judged j) right plain passed earlier = absurd (omega (arith, earlier))
stops once files before after names g (Unclean c at) right plain passed earlier = absurd (omega (arith, earlier))
stops once files before after names g (Clean bounds) right plain passed earlier = absurd (omega (arith, earlier))
stops once files before after names g (Trouble trouble) right plain passed earlier = absurd (omega (arith, plain))

-- ## One answer

-- what is said by judgements of one command's certificate is the same
-- the words have one list of digests
same_words : ReadsOnce → (files : List Named) (names : Names) (g h : Gathered) (p q : PlainProgram) → (this : HasProgram (setting_of (Some files) names) g p) → (that : HasProgram (setting_of (Some files) names) h q)
    → (reading_digests this.reading).funcs ≡ (reading_digests that.reading).funcs
same_words once files names g h p q this that = ap (λ (r : PlainReading). (reading_digests r).funcs) (shared.reading_once once (setting_of (Some files) names) refl g h p q this that)

same_judgement : ReadsOnce → OneJudgement → (files : List Named) (names : Names) (g h : Gathered) (p q : PlainProgram) (j k : Judgement) → (this : HasProgram (setting_of (Some files) names) g p) → (that : HasProgram (setting_of (Some files) names) h q)
    → IsJudged (Some files) names.certificate p (reading_digests this.reading).funcs j → IsJudged (Some files) names.certificate q (reading_digests that.reading).funcs k → saying_of names g (Judged j) ≡ saying_of names h (Judged k)
same_judgement once one files names g h p q j k this that judged judged' =
    let same = shared.has_once once (setting_of (Some files) names) refl g h p q this that in
    ap (λ (x : Gathered). saying_of names x (Judged j)) same.sources_are
    ∙ ap (λ (i : Judgement). saying_of names h (Judged i))
    (judged_once one (Some files) refl names.certificate p q (reading_digests this.reading).funcs (reading_digests that.reading).funcs j k same.program_is (same_words once files names g h p q this that) judged judged')

-- an accepted certificate isn't enough where it is tried, too
not_enough : ReadsOnce → OneJudgement → (files : List Named) (names : Names) (g h : Gathered) (p : PlainProgram) (j : Judgement) (bounds : Bounds) (said : Cleanness) → (this : HasProgram (setting_of (Some files) names) g p)
    → IsJudged (Some files) names.certificate p (reading_digests this.reading).funcs j → IsEnough names.clean j → HasCleanness (Some files) names h bounds said → ⊥
not_enough once one files names g h p j bounds said this judged enough tried =
    let same = shared.has_once once (setting_of (Some files) names) refl g h p tried.program this tried.has in
    let words = same_words once files names g h p tried.program this tried.has in
    let accepted =
    judged_once one (Some files) refl names.certificate p tried.program (reading_digests this.reading).funcs (reading_digests tried.has.reading).funcs j (Accepted bounds) same.program_is words judged (judged_of files names h bounds said tried) in
    let unasked : names.clean ≡ false = subst (IsEnough names.clean) accepted enough in
    let clash = sym unasked ∙ tried.asked in
    cc

-- what is said of claims that are tried is the same
same_claims : TextTellsStatement → ReadsOnce → OneJudgement → (files : List Named) (names : Names) (g h : Gathered) (bounds bounds' : Bounds) (said said' : Cleanness) → HasCleanness (Some files) names g bounds said → HasCleanness (Some files) names h bounds' said' →
    saying_of names g (cleaned bounds said) ≡ saying_of names h (cleaned bounds' said')
same_claims tells once one files names g h bounds bounds' said said' this that =
    let same = shared.has_once once (setting_of (Some files) names) refl g h this.program that.program this.has that.has in
    let words = same_words once files names g h this.program that.program this.has that.has in
    let text = sym this.accepted.claimed.read.text_is ∙ same_Some this.bytes that.bytes (sym this.given ∙ that.given) ∙ that.accepted.claimed.read.text_is in
    let certificates = tells this.accepted.claimed.certificate that.accepted.claimed.certificate this.accepted.claimed.read.is_certificate that.accepted.claimed.read.is_certificate text in
    let said_are : said ≡ said' = this.accepted.is ∙ (λ i. cleanness (same.program_is i) (claims_in (certificates i))) ∙ sym that.accepted.is in
    let bounds_are : bounds ≡ bounds' = bounds_in (judged_once one (Some files) refl names.certificate this.program that.program (reading_digests this.has.reading).funcs (reading_digests that.has.reading).funcs (Accepted bounds) (Accepted bounds') same.program_is words
    (judged_of files names g bounds said this) (judged_of files names h bounds' said' that)) in
    λ i. saying_of names (same.sources_are i) (cleaned (bounds_are i) (said_are i))
  where
    bounds_in : (Accepted bounds ≡ Accepted bounds') → bounds ≡ bounds'
    bounds_in e = cc

-- two answers at one place say the same
same_place : TextTellsStatement → ReadsOnce → OneJudgement → (files : List Named) (before after : ℕ) (names : Names) (g h : Gathered) (a b : Answer) → IsRight (told files before after) names g a → IsRight (told files before after) names h b → number_of a ≡ number_of b → number_of a ≤ 4 → saying_of names g a ≡ saying_of names h b
same_place tells once one files before after names g h (Ungathered u) (Ungathered v) right right' same plain =
    shared.one_ungathered (setting_of (Some files) names) refl names.sources g h u v right right'
same_place tells once one files before after names g h AbsentCertificate AbsentCertificate right right' same plain = refl
same_place tells once one files before after names g h (Unread u) (Unread v) (gathers, held, unread) (gathers', held', unread') same plain =
    shared.one_unread_saying once (setting_of (Some files) names) refl g h u v gathers unread gathers' unread'
same_place tells once one files before after names g h (Judged j) (Judged k) (p, program, judged, enough) (q, program', judged', enough') same plain = same_judgement once one files names g h p q j k program program' judged judged'
same_place tells once one files before after names g h (Judged j) (Unclean c at) (p, program, judged, enough) (bounds, tried) same plain = absurd (not_enough once one files names g h p j bounds (No c at) program judged enough tried)
same_place tells once one files before after names g h (Judged j) (Clean bounds) (p, program, judged, enough) tried same plain = absurd (not_enough once one files names g h p j bounds Yes program judged enough tried)
same_place tells once one files before after names g h (Unclean c at) (Judged k) (bounds, tried) (q, program, judged, enough) same plain = absurd (not_enough once one files names h g q k bounds (No c at) program judged enough tried)
same_place tells once one files before after names g h (Clean bounds) (Judged k) tried (q, program, judged, enough) same plain = absurd (not_enough once one files names h g q k bounds Yes program judged enough tried)
same_place tells once one files before after names g h (Unclean c at) (Unclean d at') (bounds, tried) (bounds', tried') same plain = same_claims tells once one files names g h bounds bounds' (No c at) (No d at') tried tried'
same_place tells once one files before after names g h (Unclean c at) (Clean bounds') (bounds, tried) tried' same plain = same_claims tells once one files names g h bounds bounds' (No c at) Yes tried tried'
same_place tells once one files before after names g h (Clean bounds) (Unclean d at') tried (bounds', tried') same plain = same_claims tells once one files names g h bounds bounds' Yes (No d at') tried tried'
same_place tells once one files before after names g h (Clean bounds) (Clean bounds') tried tried' same plain = same_claims tells once one files names g h bounds bounds' Yes Yes tried tried'
same_place tells once one files before after names g h (Ungathered u) _ right right' same plain = absurd (omega (arith, same))
same_place tells once one files before after names g h AbsentCertificate _ right right' same plain = absurd (omega (arith, same))
same_place tells once one files before after names g h (Unread u) _ right right' same plain = absurd (omega (arith, same))
same_place tells once one files before after names g h (Judged j) _ right right' same plain = absurd (omega (arith, same))
same_place tells once one files before after names g h (Unclean c at) _ right right' same plain = absurd (omega (arith, same))
same_place tells once one files before after names g h (Clean bounds) _ right right' same plain = absurd (omega (arith, same))
same_place tells once one files before after names g h (Trouble trouble) _ right right' same plain = absurd (omega (arith, plain))

one_answer : TextTellsStatement → ReadsOnce → OneJudgement → (files : List Named) (before after : ℕ) (names : Names) (g h : Gathered) (a b : Answer) → IsRight (told files before after) names g a → IsRight (told files before after) names h b → number_of a ≤ 4 → number_of b ≤ 4 → saying_of names g a ≡ saying_of names h b
one_answer tells once one files before after names g h a b right right' plain plain' =
    elim (cases_order (number_of a) (number_of b)) [
      | inl same ↦ same_place tells once one files before after names g h a b right right' same plain
      | inr apart ↦ elim apart [
        | inl lower ↦ absurd (stops once files before after names g a right plain (passes files before after names h b (number_of a) right' lower plain') (omega (arith, lower, plain')))
        | inr upper ↦ absurd (stops once files before after names h b right' plain' (passes files before after names g a (number_of b) right upper plain) (omega (arith, upper, plain)))
      ]
    ]

-- an answer that is neither a read fault nor out of memory
plain_answer : (answer : Answer) → status_of answer ≢ 5 → status_of answer ≢ 7 → number_of answer ≤ 4
plain_answer (Ungathered u) five seven = omega arith
plain_answer AbsentCertificate five seven = omega arith
plain_answer (Unread u) five seven = omega arith
plain_answer (Judged j) five seven = omega arith
plain_answer (Unclean c at) five seven = omega arith
plain_answer (Clean bounds) five seven = omega arith
plain_answer (Trouble Read) five seven = absurd (five refl)
plain_answer (Trouble Memory) five seven = absurd (seven refl)

pub says_right : TextTellsStatement → ReadsOnce → OneJudgement → (files : List Named) (before after : ℕ) (names : Names) (some other : Saying) → SaysRight names (told files before after) some → SaysRight names (told files before after) other → some.status ≢ 5 → some.status ≢ 7 → other.status ≢ 5 → other.status ≢ 7 → some ≡ other
says_right tells once one files before after names some other s o five seven five' seven' =
    let plain = plain_answer s.answer (λ is. five (ap (λ (y : Saying). y.status) s.said ∙ is)) (λ is. seven (ap (λ (y : Saying). y.status) s.said ∙ is)) in
    let plain' = plain_answer o.answer (λ is. five' (ap (λ (y : Saying). y.status) o.said ∙ is)) (λ is. seven' (ap (λ (y : Saying). y.status) o.said ∙ is)) in
    s.said ∙ one_answer tells once one files before after names s.sources o.sources s.answer o.answer s.is_right o.is_right plain plain' ∙ sym o.said
