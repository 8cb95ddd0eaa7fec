-- Turns within an accepted certificate: no step lacks, and nothing leaves the loop.
use Rattle.std.proofs.Common.{◌≡◌, ◌≢◌, suc, ◌+◌, ◌||◌, Bool, true, false, List, [], ◌∷◌, refl, ◌∙◌, ap, slice_get}
use Rattle.p10_base.specs.declared.at.At.{At}
use Rattle.p10_base.specs.declared.report.Bounds.{Bounds}
use Rattle.p10_core.specs.Typed.{PlainProgram}
use Rattle.p10_core.specs.WholePrograms.{IsWholeProgram}
use Rattle.p10_flowrules.specs.TaskExits.{task_exits}
use Rattle.p10_meaning.specs.States.{State, AssertionFailed, Undefined, StepsSpent, Progress, gives, ends}
use Rattle.p10_meaning.specs.Statements.{Frame, Done}
use Rattle.p10_meaning.specs.Runs.{Ended, Ran, task_turn, after_turn, Within}
use Rattle.p10_meaning.specs.SoundRuns.{main_setting}
use Rattle.p10_sums.specs.Keeping.{HoldsOf}
use Rattle.p10_absx.specs.Entering.{claims_on}
use Rattle.p10_check.specs.Shapes.{has_some}
use Rattle.p10_check.proofs.Holding.{accepted_hold}
use Rattle.p10_soundness.proofs.Accepted.{accepted_meets}
use Rattle.p10_soundness.proofs.Sound.{accepted_bound}
use Rattle.p10_turns.specs.Evidence.{stands_by_ranges}
use Rattle.p10_turns.proofs.Bounded.{ranges_lawful}
use Rattle.p10_task_laws.specs.Turns.{ComesToNextTurn}
use Rattle.p10_task_laws.specs.Answers.{AnswersTurn, turn_done, assertion_failed, undefined, EachTurnAnswers, CertifiedTurnsAnswer, TurnsCertifiedByRangesAnswer}
use Rattle.p10_task_laws.proofs.Tasks.{turn_comes}
use Rattle.p10_task_laws.proofs.Runs.{rest, Made, comes_after}

second_false : (a b : Bool) → (a || b) ≡ false → b ≡ false
second_false false b e = e
second_false true b e = absurd cc

no_exit : (exits : List At) → has_some exits ≡ false → exits ≡ []
no_exit [] e = refl
no_exit (at ∷ rest) e = absurd cc

answers : (o : Progress Done) (next : Frame → State → Ran) → HoldsOf (λ (done : Done) w. ComesToNextTurn done.flow) o → (after_turn o next).outcome ≢ Ended StepsSpent → AnswersTurn o
answers (gives done w) next h k = turn_done done w h
answers (ends (AssertionFailed span) w) next h k = assertion_failed span w
answers (ends (Undefined stop span) w) next h k = undefined stop span w
answers (ends StepsSpent w) next h k = absurd (k refl)

turns_answer : (p : PlainProgram) → IsWholeProgram p → (b : Bounds) → Within p b → task_exits p ≡ [] → EachTurnAnswers p b
turns_answer p whole b within none f i task has world is frame w c =
    let m : Made p world b.prefix b.turn f i task has frame w = comes_after p world b.prefix b.turn f i task has frame w c in
    answers (task_turn (main_setting p b.turn f) task frame (record w { left = b.turn })) (rest p world b.prefix b.turn f i task has 0 (suc m.made)) (turn_comes p whole none f i task has b.turn frame (record w { left = b.turn }))
    (λ e. (within.every world is (m.made + 1)).steps (ap (λ (r : Ran). r.outcome) (m.then_is 1) ∙ e))

pub certified_turns_answer : CertifiedTurnsAnswer
certified_turns_answer p whole stands lawful c b verdict =
    turns_answer p whole b (accepted_bound p whole stands lawful c b verdict)
    (no_exit (task_exits p) (second_false (has_some (claims_on (slice_get c.funcs p.main))) (has_some (task_exits p)) (accepted_meets stands p whole c (accepted_hold stands p c b verdict).1).main_right))

pub turns_certified_by_ranges_answer : TurnsCertifiedByRangesAnswer
turns_certified_by_ranges_answer p whole c b verdict = certified_turns_answer p whole (stands_by_ranges p) (ranges_lawful p whole) c b verdict
