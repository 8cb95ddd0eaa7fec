-- Only one answer is right where files are told: each answer passes the stages before its own, and is
-- refuted by what a later answer passes.
use Rattle.std.proofs.Common.{◌≡◌, ◌≢◌, ℕ, ◌<◌, ◌≤◌, List, refl, sym, ◌∙◌, ap, subst, arith, inl, inr, Option, Some}
use Rattle.std.proofs.lemmas.Bool.{cases_order}
use Rattle.std.proofs.lemmas.Option.{same_Some}
use Rattle.p10_base.specs.Gathered.{Gathered}
use Rattle.p10_world.specs.Files.{Named}
use Rattle.p10_cert.specs.Laws.{TextTellsStatement}
use Rattle.p10_cert.specs.Statements.{Statement}
use Rattle.p10_diff_evidence.specs.Laws.{OneBadLine, RankedHasNoBadLine}
use Rattle.p10_diff_evidence.specs.Placing.{IsBad}
use Rattle.p10_core.specs.Typed.{PlainProgram}
use Rattle.p10_expand.specs.Gathering.{Gathers}
use Rattle.p10_front.specs.Digests.{PlainDigests}
use Rattle.p10_front.specs.Laws.{ReadsOnce}
use Rattle.p10_command.specs.declared.trouble.Trouble.TheVariants.{Read, Memory}
use Rattle.p10_command.specs.Programs.{HasProgram}
use Rattle.p10_command.specs.Saying.{Saying}
use Rattle.p10_command.specs.Seen.{Seen}
use Rattle.p10_command.proofs.Files.{given_is_held, held_or_lacking}
use Rattle.p10_command.proofs.Once as shared
use Rattle.p10_judge.specs.Loading.{IsHeld}
use Rattle.p10_migrate_command.specs.declared.answer.Answer.{Answer}
use Rattle.p10_migrate_command.specs.declared.answer.Answer.TheVariants.{Ungathered, AbsentCertificate, Unread, Migrated, Trouble}
use Rattle.p10_migrate_command.specs.declared.command.MigrateCommand.{MigrateCommand}
use Rattle.p10_migrate_command.specs.Migrating as migrating
use Rattle.p10_migrate_command.specs.Migrating.{Migrates, IsCertificateText, migrated_of, migrated, too_long, bad, certificate, BadCertificate}
use Rattle.p10_migrate_command.specs.Told.{SaysRight, IsMigrated, IsRight, migrated_err, migrated_out, migrated_status, saying_of, setting_of, status_of}

-- ## Bytes

-- the laws of the crates below: one certificate and one bad line of a text
pub record Laws : Type 0 where
  pub statement : TextTellsStatement
  pub one_bad : OneBadLine
  pub no_bad : RankedHasNoBadLine

text_and_bad : Laws → (bytes : List ℕ) (s : Statement) (line : ℕ) → IsCertificateText bytes s → IsBad bytes line → ⊥
text_and_bad laws bytes s line text wrong = laws.no_bad s line text.good text.ranked (subst (λ (b : List ℕ). IsBad b line) text.exact wrong)

-- one thing comes of bytes, for a program with its digests
one_migrated : Laws → (p : PlainProgram) (digests : PlainDigests) (bytes : List ℕ) (this that : migrating.Migrated) → Migrates p digests bytes this → Migrates p digests bytes that → this ≡ that
one_migrated laws p digests bytes this that (too_long long is) (too_long long' is') = is ∙ sym is'
one_migrated laws p digests bytes this that (too_long long is) (bad line short wrong is') = absurd (omega (arith, long, short))
one_migrated laws p digests bytes this that (too_long long is) (certificate s text is') = absurd (omega (arith, long, text.short))
one_migrated laws p digests bytes this that (bad line short wrong is) (too_long long is') = absurd (omega (arith, long, short))
one_migrated laws p digests bytes this that (bad line short wrong is) (bad line' short' wrong' is') = is ∙ ap BadCertificate (laws.one_bad bytes line line' wrong wrong') ∙ sym is'
one_migrated laws p digests bytes this that (bad line short wrong is) (certificate s text is') = absurd (text_and_bad laws bytes s line text wrong)
one_migrated laws p digests bytes this that (certificate s text is) (too_long long is') = absurd (omega (arith, long, text.short))
one_migrated laws p digests bytes this that (certificate s text is) (bad line short wrong is') = absurd (text_and_bad laws bytes s line text wrong)
one_migrated laws p digests bytes this that (certificate s text is) (certificate t text' is') =
    is ∙ ap (λ (x : Statement). migrated p digests x) (laws.statement s t text.good text'.good (sym text.exact ∙ text'.exact)) ∙ sym is'

-- ## Stages

-- the place of an answer in the order of answers
abbrev number_of : Answer → ℕ
number_of (Ungathered u) = 1
number_of AbsentCertificate = 2
number_of (Unread u) = 3
number_of (Migrated migration) = 4
number_of (Trouble trouble) = 5

-- what is known where an answer comes after those of a stage
record Passed (m : MigrateCommand) (files : List Named) (number : ℕ) : Type 0 where
  gathered : 1 ≤ number → (g : Gathered) × Gathers (setting_of (Some files) m) g
  certificate : 2 ≤ number → IsHeld (Some files) m.certificate
  program : 3 ≤ number → (g : Gathered) × (p : PlainProgram) × HasProgram (setting_of (Some files) m) g p

-- a number that isn't reached
never : {A : Type 0} (least number : ℕ) → number < least → least ≤ number → A
never least number under over = absurd (omega (arith, under, over))

-- ## What each answer passes

abbrev told : List Named → ℕ → ℕ → Seen
told files before after = record { held = Some files; faults_before = before; faults_after = after }

passes : (files : List Named) (before after : ℕ) (m : MigrateCommand) (g : Gathered) (answer : Answer) (number : ℕ) → IsRight (told files before after) m g answer → number < number_of answer → number_of answer ≤ 4 → Passed m files number
passes files before after m g (Ungathered u) number right earlier plain = record { gathered = never 1 number (omega (arith, earlier)); certificate = never 2 number (omega (arith, earlier)); program = never 3 number (omega (arith, earlier)) }
passes files before after m g AbsentCertificate number (gathers, lacks) earlier plain = record { gathered = λ at. (g, gathers); certificate = never 2 number (omega (arith, earlier)); program = never 3 number (omega (arith, earlier)) }
passes files before after m g (Unread u) number (gathers, held, unread) earlier plain = record { gathered = λ at. (g, gathers); certificate = λ at. held; program = never 3 number (omega (arith, earlier)) }
passes files before after m g (Migrated migration) number right earlier plain = record {
  gathered = λ at. (g, right.has.has.gathers);
  certificate = λ at. given_is_held (Some files) m.certificate right.bytes right.given;
  program = λ at. (g, right.program, right.has.has);
}
passes files before after m g (Trouble trouble) number right earlier plain = absurd (omega (arith, plain))

-- ## What refutes each answer

stops : ReadsOnce → (files : List Named) (before after : ℕ) (m : MigrateCommand) (g : Gathered) (answer : Answer) → IsRight (told files before after) m g answer → number_of answer ≤ 4 → Passed m files (number_of answer) → number_of answer < 4 → ⊥
stops once files before after m g (Ungathered u) right plain passed earlier =
    let other = passed.gathered (omega arith) in shared.gathered_or_not (setting_of (Some files) m) refl other.0 g u other.1 right
stops once files before after m g AbsentCertificate (gathers, lacks) plain passed earlier = held_or_lacking (Some files) refl m.certificate (passed.certificate (omega arith)) lacks
stops once files before after m g (Unread u) (gathers, held, unread) plain passed earlier =
    let (h, p, program) = passed.program (omega arith) in
    shared.unread_or_program once (setting_of (Some files) m) refl g h u p gathers unread program
stops once files before after m g (Migrated migration) right plain passed earlier = absurd (omega (arith, earlier))
stops once files before after m g (Trouble trouble) right plain passed earlier = absurd (omega (arith, plain))

-- ## One answer

-- what is said of what comes of a certificate
said_of : Gathered → migrating.Migrated → Saying
said_of g to = record { status = migrated_status to; out = migrated_out to; err = migrated_err g to }

-- of one command's certificate one thing is said
same_migration : Laws → ReadsOnce → (files : List Named) (m : MigrateCommand) (g h : Gathered) (this that : migrating.Migrated) → IsMigrated (Some files) m g this → IsMigrated (Some files) m h that → said_of g this ≡ said_of h that
unfolding said_of
same_migration laws once files m g h this that is is' =
    let same = shared.has_digests_once once (setting_of (Some files) m) refl g h is.program is'.program is.digests is'.digests is.has is'.has in
    let bytes : is.bytes ≡ is'.bytes = same_Some is.bytes is'.bytes (sym is.given ∙ is'.given) in
    let here : Migrates is'.program is'.digests is'.bytes this =
    subst (λ (b : List ℕ). Migrates is'.program is'.digests b this) bytes
    (subst (λ (d : PlainDigests). Migrates is'.program d is.bytes this) same.digests_are (subst (λ (p : PlainProgram). Migrates p is.digests is.bytes this) same.program_is is.is)) in
    let one : this ≡ that = one_migrated laws is'.program is'.digests is'.bytes this that here is'.is in
    λ i. said_of (same.sources_are i) (one i)

-- two answers at one place say the same
same_place : Laws → ReadsOnce → (files : List Named) (before after : ℕ) (m : MigrateCommand) (g h : Gathered) (a b : Answer) → IsRight (told files before after) m g a → IsRight (told files before after) m h b → number_of a ≡ number_of b → number_of a ≤ 4 → saying_of m g a ≡ saying_of m h b
unfolding said_of
same_place laws once files before after m g h (Ungathered u) (Ungathered v) right right' same plain = shared.one_ungathered (setting_of (Some files) m) refl m.sources g h u v right right'
same_place laws once files before after m g h AbsentCertificate AbsentCertificate right right' same plain = refl
same_place laws once files before after m g h (Unread u) (Unread v) (gathers, held, unread) (gathers', held', unread') same plain =
    shared.one_unread_saying once (setting_of (Some files) m) refl g h u v gathers unread gathers' unread'
same_place laws once files before after m g h (Migrated migration) (Migrated migration') right right' same plain = same_migration laws once files m g h (migrated_of migration) (migrated_of migration') right right'
same_place laws once files before after m g h (Ungathered u) _ right right' same plain = absurd (omega (arith, same))
same_place laws once files before after m g h AbsentCertificate _ right right' same plain = absurd (omega (arith, same))
same_place laws once files before after m g h (Unread u) _ right right' same plain = absurd (omega (arith, same))
same_place laws once files before after m g h (Migrated migration) _ right right' same plain = absurd (omega (arith, same))
same_place laws once files before after m g h (Trouble trouble) _ right right' same plain = absurd (omega (arith, plain))

one_answer : Laws → ReadsOnce → (files : List Named) (before after : ℕ) (m : MigrateCommand) (g h : Gathered) (a b : Answer) → IsRight (told files before after) m g a → IsRight (told files before after) m h b → number_of a ≤ 4 → number_of b ≤ 4 → saying_of m g a ≡ saying_of m h b
one_answer laws once files before after m g h a b right right' plain plain' =
    elim (cases_order (number_of a) (number_of b)) [
      | inl same ↦ same_place laws once files before after m g h a b right right' same plain
      | inr apart ↦ elim apart [
        | inl lower ↦ absurd (stops once files before after m g a right plain (passes files before after m h b (number_of a) right' lower plain') (omega (arith, lower, plain')))
        | inr upper ↦ absurd (stops once files before after m h b right' plain' (passes files before after m g a (number_of b) right upper plain) (omega (arith, upper, plain)))
      ]
    ]

-- an answer that is neither a read fault nor out of memory
plain_answer : (answer : Answer) → status_of answer ≢ 5 → status_of answer ≢ 7 → number_of answer ≤ 4
plain_answer (Ungathered u) five seven = omega arith
plain_answer AbsentCertificate five seven = omega arith
plain_answer (Unread u) five seven = omega arith
plain_answer (Migrated migration) five seven = omega arith
plain_answer (Trouble Read) five seven = absurd (five refl)
plain_answer (Trouble Memory) five seven = absurd (seven refl)

says_right : Laws → ReadsOnce → (files : List Named) (before after : ℕ) (m : MigrateCommand) (some other : Saying) → SaysRight m (told files before after) some → SaysRight m (told files before after) other → some.status ≢ 5 → some.status ≢ 7 → other.status ≢ 5 → other.status ≢ 7 → some ≡ other
says_right laws once files before after m some other s o five seven five' seven' =
    let plain = plain_answer s.answer (λ is. five (ap (λ (y : Saying). y.status) s.said ∙ is)) (λ is. seven (ap (λ (y : Saying). y.status) s.said ∙ is)) in
    let plain' = plain_answer o.answer (λ is. five' (ap (λ (y : Saying). y.status) o.said ∙ is)) (λ is. seven' (ap (λ (y : Saying). y.status) o.said ∙ is)) in
    s.said ∙ one_answer laws once files before after m s.sources o.sources s.answer o.answer s.is_right o.is_right plain plain' ∙ sym o.said

with_held : Option (List Named) → Seen → Seen
with_held held seen = record { held = held; faults_before = seen.faults_before; faults_after = seen.faults_after }

pub says_one_thing : Laws → ReadsOnce → (m : MigrateCommand) (seen : Seen) (files : List Named) (some other : Saying) → seen.held ≡ Some files → SaysRight m seen some → SaysRight m seen other → some.status ≢ 5 → some.status ≢ 7 → other.status ≢ 5 → other.status ≢ 7 → some ≡ other
unfolding with_held
says_one_thing laws once m seen files some other held right right' five seven five' seven' =
    let same : seen ≡ told files seen.faults_before seen.faults_after = ap (λ (h : Option (List Named)). with_held h seen) held in
    says_right laws once files seen.faults_before seen.faults_after m some other (subst (λ (s : Seen). SaysRight m s some) same right) (subst (λ (s : Seen). SaysRight m s other) same right') five seven five' seven'
