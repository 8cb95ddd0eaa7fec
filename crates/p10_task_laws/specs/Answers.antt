-- What a turn of the task loop comes to within an accepted certificate.
use Rattle.std.specs.Prelude.{ℕ}
use Rattle.p10_base.specs.declared.span.Span.{Span}
use Rattle.p10_base.specs.declared.report.Bounds.{Bounds}
use Rattle.p10_int.specs.declared.operators.Stop.{Stop}
use Rattle.p10_core.specs.Typed.{PlainFunction, PlainProgram}
use Rattle.p10_core.specs.WholePrograms.{IsWholeProgram}
use Rattle.p10_cert.specs.Claims.{Claims}
use Rattle.p10_meaning.specs.declared.world.World.{World}
use Rattle.p10_meaning.specs.States.{IsWorld, State, AssertionFailed, Undefined, Progress, gives, ends}
use Rattle.p10_meaning.specs.Statements.{Frame, Done}
use Rattle.p10_meaning.specs.Runs.{Task, task_turn}
use Rattle.p10_meaning.specs.SoundRuns.{main_setting, HasTask, ComesToLoop}
use Rattle.p10_check.specs.declared.verdict.Verdict.TheVariants.{Accepted}
use Rattle.p10_check.specs.Passes.{Standing}
use Rattle.p10_check.specs.Conditions.{IsVerdict}
use Rattle.p10_turns.specs.Evidence.{stands_by_ranges}
use Rattle.p10_turns.specs.Laws.{IsLawful}
use Rattle.p10_task_laws.specs.Turns.{ComesToNextTurn}

-- a turn is done, so that the next may follow, or it fails an assertion, or it comes to an undefined operation
pub data AnswersTurn : Progress Done → Type 0 where
  turn_done : (done : Done) (w : State) → ComesToNextTurn done.flow → AnswersTurn (gives done w)
  assertion_failed : (span : Span) (w : State) → AnswersTurn (ends (AssertionFailed span) w)
  undefined : (stop : Stop) (span : Span) (w : State) → AnswersTurn (ends (Undefined stop span) w)

-- wherever a run of a program comes to its task loop, with the budgets of some bounds, so does the turn that follows
abbrev pub EachTurnAnswers : PlainProgram → Bounds → Type 0
EachTurnAnswers p b =
    (f : PlainFunction) (i : ℕ) (task : Task) → HasTask p f i task → (world : World) → IsWorld world → (frame : Frame) (w : State) → ComesToLoop p world b.prefix b.turn f i task frame w →
    AnswersTurn (task_turn (main_setting p b.turn f) task frame (record w { left = b.turn }))

-- so it is within a certificate that is accepted for a whole program, whatever evidence helped, if that is lawful
abbrev pub CertifiedTurnsAnswer : Type 0
CertifiedTurnsAnswer = (p : PlainProgram) → IsWholeProgram p → (stands : Standing) → IsLawful p stands → (c : Claims) (b : Bounds) → IsVerdict stands p c (Accepted b) → EachTurnAnswers p b

-- and within one that is accepted with the evidence of ranges
abbrev pub TurnsCertifiedByRangesAnswer : Type 0
TurnsCertifiedByRangesAnswer = (p : PlainProgram) → IsWholeProgram p → (c : Claims) (b : Bounds) → IsVerdict (stands_by_ranges p) p c (Accepted b) → EachTurnAnswers p b
