-- What roots come to, by what gathering answers.
use Rattle.std.proofs.Common.{◌≡◌, ℕ, List, sym, subst, Option, Result, Err, IfOk}
use Rattle.p10_base.specs.Codes.{IsCode}
use Rattle.p10_base.specs.declared.report.Family.{Family}
use Rattle.p10_base.specs.declared.report.Refusal.{Refusal}
use Rattle.p10_base.specs.Words.{Text}
use Rattle.p10_world.specs.Files.{Named}
use Rattle.p10_lex.specs.declared.fault.LexFault.TheVariants.{Refused}
use Rattle.p10_lex.specs.Lexes.{Answers as LexAnswers}
use Rattle.p10_lex.proofs.Codes.{refused_code}
use Rattle.p10_expand.specs.declared.fault.GatherFault.{GatherFault}
use Rattle.p10_expand.specs.declared.fault.GatherFault.TheVariants as fault
use Rattle.p10_expand.specs.Gathering.{Setting, IsFault}
use Rattle.p10_expand.specs.Setting.{setting}
use Rattle.p10_expand.proofs.RootCount.{absent_below}
use Rattle.p10_command.specs.declared.gathering.GatheredRoots.{GatheredRoots}
use Rattle.p10_command.specs.declared.trouble.Trouble.{Trouble}
use Rattle.p10_command.specs.Gathering.{AreGathered}
use Rattle.p10_command.specs.private.Stopping.{roots_without}

-- a refusal by lexing has a code whose text is known
refused_is_code : (file : ℕ) (bytes : List ℕ) (refusal : Refusal) → LexAnswers file bytes (Err (Refused refusal)) → IsCode refusal.family refusal.number
refused_is_code file bytes refusal lexed =
    let code = refused_code file bytes refusal lexed in
    subst (λ (f : Family). IsCode f refusal.number) (sym code.0) (code.1, code.2)

stopped_by : (s : Setting) (f : GatherFault) → IsFault s f → IfOk (roots_without f) (AreGathered s)
stopped_by s (fault.RootAbsent place) fails = (fails, absent_below s place fails)
stopped_by s (fault.Refused refusal g) fails = (fails, refused_is_code _ _ refusal fails.ends.refused)
stopped_by s (fault.Over limit) fails = (fails, tt)
stopped_by s fault.Read fails = tt
stopped_by s fault.Memory fails = tt

-- the names that files are gathered by are those of the command
pub with_names : (held : Option (List Named)) (roots directories named_roots named_directories : List Text) (P : Setting → Type 0) → named_roots ≡ roots → named_directories ≡ directories → P (setting held named_roots named_directories) → P (setting held roots directories)
with_names held roots directories named_roots named_directories P same_roots same_directories is =
    subst (λ ds. P (setting held roots ds)) same_directories (subst (λ rs. P (setting held rs named_directories)) same_roots is)

pub roots_stopped : (held : Option (List Named)) (roots directories named_roots named_directories : List Text) (f : GatherFault) (r : Result GatheredRoots Trouble) → named_roots ≡ roots → named_directories ≡ directories → r ≡ roots_without f →
    IsFault (setting held named_roots named_directories) f → IfOk r (AreGathered (setting held roots directories))
roots_stopped held roots directories named_roots named_directories f r same_roots same_directories is fails =
    subst (λ (r : Result GatheredRoots Trouble). IfOk r (AreGathered (setting held roots directories))) (sym is)
    (stopped_by (setting held roots directories) f (with_names held roots directories named_roots named_directories (λ s. IsFault s f) same_roots same_directories fails))
