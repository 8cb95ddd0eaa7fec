-- Runs of `main` with a task loop that come only to calls that claims cover, and whose loops keep their claims.
use Rattle.std.specs.Prelude.{◌≡◌, ℕ, true, [], Some}
use Rattle.p10_core.specs.Typed.{PlainFunction, PlainProgram}
use Rattle.p10_cert.specs.Claims.{Claims}
use Rattle.p10_meaning.specs.declared.world.World.{World}
use Rattle.p10_meaning.specs.States.{State}
use Rattle.p10_meaning.specs.Statements.{Frame}
use Rattle.p10_meaning.specs.Calling.{no_depth, deeper, raised, Entered, entered}
use Rattle.p10_meaning.specs.Opening.{opening}
use Rattle.p10_meaning.specs.Runs.{Task, task_test}
use Rattle.p10_meaning.specs.SoundRuns.{main_setting, ComesToLoop}
use Rattle.p10_sums.specs.Counting.{counting_of}
use Rattle.p10_sums.specs.Keeping.{OnGives, AfterStep, TestKeeps, StatementKeeps, StatementsKeep}
use Rattle.p10_evaluation.specs.Claimed.{IsCoveredCall}
use Rattle.p10_task.specs.Coming.{items_before}

-- the part of `main` before its task loop comes only to calls that claims cover, and its loops keep their claims
abbrev pub FirstPartIsCovered : PlainProgram → Claims → ℕ → PlainFunction → ℕ → State → Type 0
FirstPartIsCovered p c budget f i w =
    AfterStep w (λ w. let start : Entered = entered f.variables [] (raised (deeper f no_depth) w) in
    StatementsKeep (counting_of p c.funcs p.main f) (main_setting p budget f) (IsCoveredCall p (Some c) budget) 0 (items_before i f.body) start.frame start.state)

-- so does a turn of the task loop
abbrev pub TurnIsCovered : PlainProgram → Claims → ℕ → PlainFunction → Task → Frame → State → Type 0
TurnIsCovered p c budget f task frame w =
    TestKeeps (main_setting p budget f) (IsCoveredCall p (Some c) budget) task.tested frame w
    × OnGives (λ more w. more ≡ true → StatementKeeps (counting_of p c.funcs p.main f) (main_setting p budget f) (IsCoveredCall p (Some c) budget) task.body frame w)
    (task_test (main_setting p budget f) task.tested frame w)

-- along a run in a world, the part before the task loop does, and each turn, which begins with a fresh budget
pub record RunIsCovered (p : PlainProgram) (c : Claims) (world : World) (prefix turn : ℕ) (f : PlainFunction) (i : ℕ) (task : Task) : Type 0 where
  pub first : FirstPartIsCovered p c prefix f i (opening p world prefix)
  pub turns : (frame : Frame) (w : State) → ComesToLoop p world prefix turn f i task frame w → TurnIsCovered p c turn f task frame (record w { left = turn })
