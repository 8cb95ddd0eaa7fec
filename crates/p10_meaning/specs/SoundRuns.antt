-- Sound states along whole runs: up to the task loop, and in each of its turns.
use Rattle.std.specs.Prelude.{◌≡◌, ℕ, ◌⊎◌, List, Some, slice_get}
use Rattle.p10_core.specs.Typed.{statements_list, PlainVariable, PlainFunction, PlainProgram}
use Rattle.p10_core.specs.WholePrograms.{IsWholeProgram}
use Rattle.p10_meaning.specs.declared.world.World.{World}
use Rattle.p10_meaning.specs.States.{IsWorld, State, gives}
use Rattle.p10_meaning.specs.Values.{Setting, Held}
use Rattle.p10_meaning.specs.Statements.{Frame, normal, continued, Done}
use Rattle.p10_meaning.specs.Calling.{no_depth, deeper, setting_of, call_at}
use Rattle.p10_meaning.specs.Opening.{opening}
use Rattle.p10_meaning.specs.Runs.{Turns, Ran, ran, Task, task_in, task_turn, before_task, run_of}
use Rattle.p10_meaning.specs.Sound.{Kind, Sound, FrameFits, Grows, Keeps, DoneFits, opening_kinds}

-- what the trees of `main` stand in, with a budget that bounds calls and turns
abbrev pub main_setting : PlainProgram → ℕ → PlainFunction → Setting
main_setting p budget f = setting_of p budget (call_at budget p) (deeper f no_depth) f

-- a function is `main`, and its item with a number is the task loop
pub record HasTask (p : PlainProgram) (f : PlainFunction) (i : ℕ) (task : Task) : Type 0 where
  pub main : slice_get p.functions p.main ≡ Some f
  pub item : p.task ≡ Some i
  pub loop : task_in (slice_get (statements_list f.body) i) ≡ Some task

-- ## Its parts

-- the part of `main` before its task loop keeps sound states, and leaves a frame that fits
abbrev pub FirstPartsKeepSound : Type 0
FirstPartsKeepSound =
    (p : PlainProgram) → IsWholeProgram p → (f : PlainFunction) (i : ℕ) (task : Task) → HasTask p f i task → (budget : ℕ) (w : State) (ks : List Kind) → Sound p ks w →
    Keeps p ks (DoneFits p f.variables f.result) (before_task (main_setting p budget f) f i (deeper f no_depth) w)

-- each turn of the task loop, in a frame that fits, keeps sound states, and leaves a frame that fits
abbrev pub TurnsKeepSound : Type 0
TurnsKeepSound =
    (p : PlainProgram) → IsWholeProgram p → (f : PlainFunction) (i : ℕ) (task : Task) → HasTask p f i task → (budget : ℕ) (frame : Frame) (w : State) (ks : List Kind) → Sound p ks w → FrameFits p ks f.variables frame.held →
    Keeps p ks (DoneFits p f.variables f.result) (task_turn (main_setting p budget f) task frame w)

-- the frames of callers: what fits the variables of a function fits them after more objects were opened, and what is executed only adds
-- objects (`Keeps`)
abbrev pub FramesFitOn : Type 0
FramesFitOn =
    (p : PlainProgram) (ks js : List Kind) → Grows ks js → (variables : List PlainVariable) (held : List Held) → FrameFits p ks variables held → FrameFits p js variables held

-- ## All of it

-- a run comes to its task loop, with the frame of `main` and a state: after the part before the loop, where that goes on, and
-- after each turn that goes on, which begins with a fresh budget
pub data ComesToLoop (p : PlainProgram) (world : World) (prefix turn : ℕ) (f : PlainFunction) (i : ℕ) (task : Task) : Frame → State → Type 0 where
  at_first : (done : Done) (w : State) → before_task (main_setting p prefix f) f i (deeper f no_depth) (opening p world prefix) ≡ gives done w → done.flow ≡ normal →
      ComesToLoop p world prefix turn f i task done.frame w
  again : (frame : Frame) (w : State) (done : Done) (next : State) → ComesToLoop p world prefix turn f i task frame w →
      task_turn (main_setting p turn f) task frame (record w { left = turn }) ≡ gives done next → (done.flow ≡ normal) ⊎ (done.flow ≡ continued) →
      ComesToLoop p world prefix turn f i task done.frame next

-- what a run gives that ends after m turns, where it stands at its loop
pub record EndsAtLoop (p : PlainProgram) (world : World) (prefix turn : ℕ) (f : PlainFunction) (i : ℕ) (task : Task) (m : ℕ) (r : Ran) : Type 0 where
  pub frame : Frame
  pub state : State
  pub comes : ComesToLoop p world prefix turn f i task frame state
  pub is : r ≡ ran (Turns m) state

-- a run whose outcome is a number of turns stands at its loop
abbrev pub TurnsEndAtLoop : Type 0
TurnsEndAtLoop =
    (p : PlainProgram) (world : World) (prefix turn n m : ℕ) (f : PlainFunction) (i : ℕ) (task : Task) → HasTask p f i task → (run_of p world prefix turn n).outcome ≡ Turns m →
    EndsAtLoop p world prefix turn f i task m (run_of p world prefix turn n)

-- a state is sound, after the objects of the opening state and others, and the frame of a function fits
pub record StandsSound (p : PlainProgram) (f : PlainFunction) (frame : Frame) (w : State) : Type 0 where
  pub kinds : List Kind
  pub grows : Grows (opening_kinds p) kinds
  pub sound : Sound p kinds w
  pub fits : FrameFits p kinds f.variables frame.held

-- wherever a run of a whole program comes to its task loop, its state is sound
abbrev pub RunsStaySound : Type 0
RunsStaySound =
    (p : PlainProgram) → IsWholeProgram p → (world : World) → IsWorld world → (prefix turn : ℕ) (f : PlainFunction) (i : ℕ) (task : Task) → HasTask p f i task →
    (frame : Frame) (w : State) → ComesToLoop p world prefix turn f i task frame w → StandsSound p f frame w
