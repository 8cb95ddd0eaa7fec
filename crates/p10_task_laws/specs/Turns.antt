-- Turns of a task loop that no statement leaves (Holzmann, "The Power of Ten", 2006, rule 2).
use Rattle.std.specs.Prelude.{◌≡◌, ℕ, []}
use Rattle.p10_base.specs.declared.span.Span.{Span}
use Rattle.p10_core.specs.Typed.{PlainFunction, PlainProgram}
use Rattle.p10_core.specs.WholePrograms.{IsWholeProgram}
use Rattle.p10_flowrules.specs.TaskExits.{task_exits}
use Rattle.p10_flowrules.specs.FlowRows.{ViolatesFlow, task_row}
use Rattle.p10_meaning.specs.declared.world.World.{World}
use Rattle.p10_meaning.specs.States.{State, End, gives}
use Rattle.p10_meaning.specs.Statements.{Frame, Flow, normal, continued, Done}
use Rattle.p10_meaning.specs.Calling.{no_depth, deeper}
use Rattle.p10_meaning.specs.Opening.{opening}
use Rattle.p10_meaning.specs.Runs.{Outcome, Turns, Ended, Task, task_turn, before_task, run_of}
use Rattle.p10_meaning.specs.SoundRuns.{main_setting, HasTask}
use Rattle.p10_sums.specs.Keeping.{HoldsOf}

-- execution comes to the next turn of a loop: its body ended, or came to a `continue` (C99 6.8.6.2)
pub data ComesToNextTurn : Flow → Type 0 where
  at_end : ComesToNextTurn normal
  at_continue : ComesToNextTurn continued

-- each turn of the task loop of a program comes to the next one, where it doesn't end the run: with each budget, in every frame and state
abbrev pub EachTurnGoesOn : PlainProgram → Type 0
EachTurnGoesOn p =
    (f : PlainFunction) (i : ℕ) (task : Task) → HasTask p f i task → (budget : ℕ) (frame : Frame) (w : State) →
    HoldsOf (λ (done : Done) w. ComesToNextTurn done.flow) (task_turn (main_setting p budget f) task frame w)

-- so it is in a whole program in which no statement leaves the task loop
abbrev pub TurnsGoOn : Type 0
TurnsGoOn = (p : PlainProgram) → IsWholeProgram p → task_exits p ≡ [] → EachTurnGoesOn p

-- and in one in which row 2.2 is violated nowhere
abbrev pub KeptRuleGoesOn : Type 0
KeptRuleGoesOn = (p : PlainProgram) → IsWholeProgram p → ((span : Span) → ViolatesFlow p task_row span → ⊥) → EachTurnGoesOn p

-- how a run ends in which n turns were asked for: after all of them, or on the way
pub data TurnsOrEnds (n : ℕ) : Outcome → Type 0 where
  all_turns : TurnsOrEnds n (Turns n)
  on_the_way : (end : End) → TurnsOrEnds n (Ended end)

-- a run of a whole program that comes to its task loop doesn't return, where no statement leaves that loop
abbrev pub RunsGoOnTurning : Type 0
RunsGoOnTurning =
    (p : PlainProgram) → IsWholeProgram p → task_exits p ≡ [] → (f : PlainFunction) (i : ℕ) (task : Task) → HasTask p f i task →
    (world : World) (prefix turn n : ℕ) (done : Done) (w : State) → before_task (main_setting p prefix f) f i (deeper f no_depth) (opening p world prefix) ≡ gives done w → done.flow ≡ normal →
    TurnsOrEnds n (run_of p world prefix turn n).outcome
