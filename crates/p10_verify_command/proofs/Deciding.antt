-- What an answer rests on: gathered sources, and what they and the certificate come to.
use Rattle.std.proofs.Common.{◌≡◌, ℕ, inl, inr, List, subst, arith, Option, Result, Err, true}
use Rattle.p10_base.specs.declared.report.Bounds.{Bounds}
use Rattle.p10_base.specs.Gathered.{Gathered}
use Rattle.p10_base.specs.Words.{Text}
use Rattle.p10_world.specs.Faults.{Rose}
use Rattle.p10_world.specs.Files.{Named}
use Rattle.p10_expand.specs.Gathering.{Gathers}
use Rattle.p10_expand.specs.Setting.{setting}
use Rattle.p10_command.specs.declared.gathering.GatheredRoots.{GatheredRoots}
use Rattle.p10_command.specs.declared.gathering.GatheredRoots.TheVariants as roots_of
use Rattle.p10_command.specs.declared.gathering.Ungathered as why
use Rattle.p10_command.specs.declared.trouble.Trouble as problem
use Rattle.p10_command.specs.declared.trouble.Trouble.TheVariants.{Read, Memory}
use Rattle.p10_command.specs.Gathering.{AreGathered}
use Rattle.p10_front.specs.Digests.{reading_digests}
use Rattle.p10_command.proofs.Causes.{has_cause}
use Rattle.p10_command.proofs.Files.{all_of}
use Rattle.p10_command.proofs.Sources.{all_gathered, not_gathered}
use Rattle.p10_core.specs.Typed.{PlainProgram}
use Rattle.p10_clean.specs.declared.flaw.Clean.{Clean as Cleanness}
use Rattle.p10_clean.specs.declared.flaw.Clean.TheVariants.{Yes, No}
use Rattle.p10_judge.specs.Loading.{IsLoaded, certificate_limit}
use Rattle.p10_judge.proofs.Files.{given_is_held, judged}
use Rattle.p10_verify_command.specs.declared.answer.Answer.{Answer}
use Rattle.p10_verify_command.specs.declared.answer.Answer.TheVariants.{Ungathered, AbsentCertificate, Unread, Judged, Unclean, Clean, Trouble}
use Rattle.p10_verify_command.specs.Names.{Names}
use Rattle.p10_verify_command.specs.Answers.{IsAcceptedAs, HasCleanness, setting_of}
use Rattle.p10_verify_command.specs.private.Deciding.{Answered, AreWeighed, Decides, IsAnswerFor}

-- ## The answers

pub gathers_named : (held : Option (List Named)) (names : Names) (roots directories : List Text) (found : GatheredRoots) (g : Gathered) → roots ≡ names.sources → directories ≡ names.directories → found ≡ roots_of.All g → AreGathered (setting held roots directories) found → Gathers (setting_of held names) g
gathers_named held names roots directories found g same_roots same_directories same is = (all_gathered held roots names.sources directories names.directories found g same_roots same_directories same is).0

pub decides_ungathered : (held : Option (List Named)) (names : Names) (roots directories : List Text) (found : GatheredRoots) (u : why.Ungathered) (g : Gathered) → roots ≡ names.sources → directories ≡ names.directories → found ≡ roots_of.Stopped u g →
    AreGathered (setting held roots directories) found → Decides held names g (Ungathered u)
decides_ungathered held names roots directories found u g same_roots same_directories same is =
    let stopped = not_gathered held roots names.sources directories names.directories found u g same_roots same_directories same is in
    record { is_right = stopped.0; can_be_told = stopped.1 }

tried : (held : Option (List Named)) (names : Names) (g : Gathered) (bytes : List ℕ) (p : PlainProgram) (answer : Answer) (bounds : Bounds) (said : Cleanness) → Gathers (setting_of held names) g → IsLoaded held names.certificate bytes →
    (w : IsAnswerFor g p bytes names.clean answer) → names.clean ≡ true → IsAcceptedAs p (reading_digests w.reading).funcs bytes bounds said → HasCleanness held names g bounds said
tried held names g bytes p answer bounds said gathers loaded w asked accepted = record {
  asked = asked;
  program = p;
  has = record { gathers = gathers; reading = w.reading; read = w.read; whole = w.whole };
  bytes = loaded.whole;
  given = loaded.given;
  accepted = subst (λ (b : List ℕ). IsAcceptedAs p (reading_digests w.reading).funcs b bounds said) (all_of certificate_limit loaded.whole bytes loaded.front accepted.claimed.read.short) accepted;
}

weighed_by : (held : Option (List Named)) (names : Names) (g : Gathered) (bytes : List ℕ) (answer : Answer) → Gathers (setting_of held names) g → IsLoaded held names.certificate bytes → AreWeighed g bytes names.clean answer → Decides held names g answer
weighed_by held names g bytes (Unread u) gathers loaded unread =
    record { is_right = (gathers, given_is_held held names.certificate loaded.whole loaded.given, unread.0); can_be_told = unread.1 }
weighed_by held names g bytes (Judged j) gathers loaded (p, w) =
    record { is_right = (p, record { gathers = gathers; reading = w.reading; read = w.read; whole = w.whole }, judged held names.certificate bytes p (reading_digests w.reading).funcs j loaded w.is.0, w.is.1); can_be_told = tt }
weighed_by held names g bytes (Unclean c at) gathers loaded (p, w) =
    record { is_right = (w.is.1, tried held names g bytes p (Unclean c at) w.is.1 (No c at) gathers loaded w w.is.0 w.is.2); can_be_told = tt }
weighed_by held names g bytes (Clean bounds) gathers loaded (p, w) = record { is_right = tried held names g bytes p (Clean bounds) bounds Yes gathers loaded w w.is.0 w.is.1; can_be_told = tt }
weighed_by held names g bytes (Ungathered u) gathers loaded (p, w) = absurd w.is
weighed_by held names g bytes AbsentCertificate gathers loaded (p, w) = absurd w.is
weighed_by held names g bytes (Trouble trouble) gathers loaded (p, w) = absurd w.is

-- the sources and a certificate that was loaded come to this
pub decides_weighed : (held later : Option (List Named)) (names : Names) (g : Gathered) (bytes read : List ℕ) (answer : Answer) → Gathers (setting_of held names) g → later ≡ held → IsLoaded later names.certificate bytes → read ≡ bytes →
    AreWeighed g read names.clean answer → Decides held names g answer
decides_weighed held later names g bytes read answer gathers unchanged loaded same weighed =
    weighed_by held names g bytes answer gathers (subst (λ (h : Option (List Named)). IsLoaded h names.certificate bytes) unchanged loaded) (subst (λ (b : List ℕ). AreWeighed g b names.clean answer) same weighed)

no_fault : Rose 0 0 → ⊥
no_fault (inl more) = absurd (omega (arith, more))
no_fault (inr last) = absurd (omega (arith, last))

-- an answer that is right without a fault is right whatever the counts of faults are
pub seen_later : (held : Option (List Named)) (before after : ℕ) (names : Names) (g : Gathered) (answer : Answer) → Decides held names g answer → Answered (record { held = held; faults_before = before; faults_after = after }) names g answer
seen_later held before after names g (Ungathered u) decides = record { is_right = decides.is_right; can_be_told = decides.can_be_told }
seen_later held before after names g AbsentCertificate decides = record { is_right = decides.is_right; can_be_told = decides.can_be_told }
seen_later held before after names g (Unread u) decides = record { is_right = decides.is_right; can_be_told = decides.can_be_told }
seen_later held before after names g (Judged j) decides = record { is_right = decides.is_right; can_be_told = decides.can_be_told }
seen_later held before after names g (Unclean c at) decides = record { is_right = decides.is_right; can_be_told = decides.can_be_told }
seen_later held before after names g (Clean bounds) decides = record { is_right = decides.is_right; can_be_told = decides.can_be_told }
seen_later held before after names g (Trouble Read) decides = absurd (no_fault decides.is_right)
seen_later held before after names g (Trouble Memory) decides = record { is_right = tt; can_be_told = tt }

-- a read failed only where the count of faults rose
pub troubled : {T : Type 0} (held : Option (List Named)) (before after : ℕ) (names : Names) (g : Gathered) (trouble : problem.Trouble) (r : Result T problem.Trouble) → r ≡ Err trouble → (r ≡ Err Read → Rose before after) →
    Answered (record { held = held; faults_before = before; faults_after = after }) names g (Trouble trouble)
troubled held before after names g trouble r is failed = record { is_right = has_cause r trouble before after is failed; can_be_told = tt }
