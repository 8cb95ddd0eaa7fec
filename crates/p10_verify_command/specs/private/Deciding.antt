-- What is known of an answer and the gathered sources while it is decided.
use Rattle.std.specs.Prelude.{◌≡◌, List, Option, ℕ, Bool, true}
use Rattle.p10_base.specs.Gathered.{Gathered}
use Rattle.p10_world.specs.Files.{Named}
use Rattle.p10_core.specs.Typed.{PlainProgram}
use Rattle.p10_core.specs.WholePrograms.{IsWholeProgram}
use Rattle.p10_front.specs.Digests.{reading_digests}
use Rattle.p10_front.specs.Readings.{PlainReading, AreReadAs}
use Rattle.p10_command.specs.Gathering as gathering
use Rattle.p10_command.specs.Reading.{AreUnread, HasCode}
use Rattle.p10_command.specs.Seen.{Seen}
use Rattle.p10_clean.specs.declared.flaw.Clean.{Clean as Cleanness}
use Rattle.p10_clean.specs.declared.flaw.Clean.TheVariants.{Yes, No}
use Rattle.p10_base.specs.declared.report.Bounds.{Bounds}
use Rattle.p10_judge.specs.Judging.{IsWeighed}
use Rattle.p10_verify_command.specs.declared.answer.Answer.{Answer}
use Rattle.p10_verify_command.specs.declared.answer.Answer.TheVariants.{Ungathered, Unread, Judged, Unclean, Clean}
use Rattle.p10_verify_command.specs.Names.{Names}
use Rattle.p10_verify_command.specs.Answers.{IsEnough, IsAcceptedAs, IsRight}

-- files that are seen without a fault
abbrev pub unfailing : Option (List Named) → Seen
unfailing held = record { held = held; faults_before = 0; faults_after = 0 }

-- what an answer prints can be printed: the name is one of the command's, and the code of a refusal has a text
abbrev pub CanBeTold : Names → Answer → Type 0
CanBeTold names (Ungathered why) = gathering.CanBeTold names.sources why
CanBeTold names (Unread why) = HasCode why
CanBeTold names answer = Unit {0}

-- an answer is right, and can be printed
pub record Answered (seen : Seen) (names : Names) (sources : Gathered) (answer : Answer) : Type 0 where
  pub is_right : IsRight seen names sources answer
  pub can_be_told : CanBeTold names answer

-- an answer is right without a fault, and can be printed
abbrev pub Decides : Option (List Named) → Names → Gathered → Answer → Type 0
Decides held names sources answer = Answered (unfailing held) names sources answer

-- the answer by what is said of an accepted certificate
abbrev pub cleaned : Bounds → Cleanness → Answer
cleaned bounds Yes = Clean bounds
cleaned bounds (No c at) = Unclean c at

-- what the bytes of a certificate come to for a program whose functions have these digests, where it has to be clean or need not
abbrev pub ComesTo : PlainProgram → List (List ℕ) → List ℕ → Bool → Answer → Type 0
ComesTo p digests bytes clean (Judged judgement) = IsWeighed p digests bytes judgement × IsEnough clean judgement
ComesTo p digests bytes clean (Unclean c at) = (clean ≡ true) × (bounds : Bounds) × IsAcceptedAs p digests bytes bounds (No c at)
ComesTo p digests bytes clean (Clean bounds) = (clean ≡ true) × IsAcceptedAs p digests bytes bounds Yes
ComesTo p digests bytes clean answer = ⊥

-- what they come to for the program of a reading
abbrev pub ComesFrom : PlainReading → PlainProgram → List ℕ → Bool → Answer → Type 0
ComesFrom r p bytes clean answer = ComesTo p (reading_digests r).funcs bytes clean answer

-- gathered sources are read as this whole program, for which the bytes of a certificate come to an answer
pub record IsAnswerFor (g : Gathered) (p : PlainProgram) (bytes : List ℕ) (clean : Bool) (answer : Answer) : Type 0 where
  pub reading : PlainReading
  pub read : AreReadAs g reading p
  pub whole : IsWholeProgram p
  pub is : ComesFrom reading p bytes clean answer

-- what gathered sources and the bytes of a certificate come to
abbrev pub AreWeighed : Gathered → List ℕ → Bool → Answer → Type 0
AreWeighed g bytes clean (Unread why) = AreUnread g why × HasCode why
AreWeighed g bytes clean answer = (p : PlainProgram) × IsAnswerFor g p bytes clean answer
