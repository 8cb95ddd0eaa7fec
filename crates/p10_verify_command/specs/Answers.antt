-- When each answer is right, in the order in which they are tried.
use Rattle.std.specs.Prelude.{◌≡◌, ℕ, List, Bool, true, false, Option}
use Rattle.p10_base.specs.declared.report.Bounds.{Bounds}
use Rattle.p10_base.specs.Gathered.{Gathered}
use Rattle.p10_world.specs.Files.{Named, Lacks}
use Rattle.p10_core.specs.Typed.{PlainProgram}
use Rattle.p10_front.specs.Digests.{reading_digests}
use Rattle.p10_check.specs.declared.verdict.Verdict.TheVariants as verdicts
use Rattle.p10_clean.specs.declared.flaw.Clean.{Clean as Cleanness}
use Rattle.p10_clean.specs.declared.flaw.Clean.TheVariants.{Yes, No}
use Rattle.p10_clean.specs.Clean.{cleanness}
use Rattle.p10_expand.specs.Gathering.{Setting, Gathers}
use Rattle.p10_expand.specs.Setting.{setting}
use Rattle.p10_command.specs.Gathering.{AreUngathered}
use Rattle.p10_command.specs.Reading.{AreUnread}
use Rattle.p10_check.specs.Texts.{claims_in}
use Rattle.p10_command.specs.Programs.{HasProgram}
use Rattle.p10_command.specs.Seen.{HasCause, Seen}
use Rattle.p10_judge.specs.declared.judgement.Judgement.{Judgement}
use Rattle.p10_judge.specs.declared.judgement.Judgement.TheVariants.{Accepted}
use Rattle.p10_judge.specs.Judging.{IsClaimed, IsJudged}
use Rattle.p10_judge.specs.Loading.{Gives, IsHeld}
use Rattle.p10_verify_command.specs.declared.answer.Answer.{Answer}
use Rattle.p10_verify_command.specs.declared.answer.Answer.TheVariants.{Ungathered, AbsentCertificate, Unread, Judged, Unclean, Clean, Trouble}
use Rattle.p10_verify_command.specs.Names.{Names}

-- the sources of a command are gathered from the files, where they are told
abbrev pub setting_of : Option (List Named) → Names → Setting
setting_of held names = setting held names.sources names.directories

-- a judgement is the whole answer, except that an accepted certificate has to be clean, too, where `--clean` asks for it
abbrev pub IsEnough : Bool → Judgement → Type 0
IsEnough clean (Accepted bounds) = clean ≡ false
IsEnough clean judgement = Unit {0}

-- bytes are the text of a certificate that speaks of these words and is accepted for a program with these bounds, and this is said of its
-- claims
pub record IsAcceptedAs (p : PlainProgram) (digests : List (List ℕ)) (bytes : List ℕ) (bounds : Bounds) (said : Cleanness) : Type 0 where
  pub claimed : IsClaimed p digests bytes (verdicts.Accepted bounds)
  pub is : said ≡ cleanness p (claims_in claimed.certificate)

-- `--clean` asks for it, the certificate is accepted with these bounds, and this is said of its claims
pub record HasCleanness (held : Option (List Named)) (names : Names) (g : Gathered) (bounds : Bounds) (said : Cleanness) : Type 0 where
  pub asked : names.clean ≡ true
  pub program : PlainProgram
  pub has : HasProgram (setting_of held names) g program
  pub bytes : List ℕ
  pub given : Gives held names.certificate bytes
  pub accepted : IsAcceptedAs program (reading_digests has.reading).funcs bytes bounds said

-- when an answer is right, where the words name these files and these sources were gathered
abbrev pub IsRight : Seen → Names → Gathered → Answer → Type 0
IsRight seen names g (Ungathered why) = AreUngathered (setting_of seen.held names) g why
IsRight seen names g AbsentCertificate = Gathers (setting_of seen.held names) g × Lacks seen.held names.certificate
IsRight seen names g (Unread why) = Gathers (setting_of seen.held names) g × IsHeld seen.held names.certificate × AreUnread g why
IsRight seen names g (Judged judgement) =
    (p : PlainProgram) × (has : HasProgram (setting_of seen.held names) g p) × IsJudged seen.held names.certificate p (reading_digests has.reading).funcs judgement × IsEnough names.clean judgement
IsRight seen names g (Unclean c at) = (bounds : Bounds) × HasCleanness seen.held names g bounds (No c at)
IsRight seen names g (Clean bounds) = HasCleanness seen.held names g bounds Yes
-- running out of memory is the one answer that is right at any time
IsRight seen names g (Trouble trouble) = HasCause trouble seen.faults_before seen.faults_after
