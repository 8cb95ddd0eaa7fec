-- The parts of a run as work on the stacks: what comes after the work of a part makes it a stage of the run.
use Rattle.std.specs.Prelude.{◌≡◌, ℕ, Bool, true, false, List, [], ◌∷◌, ℤ, pos, Option, Some, None, if◌then◌else◌, take}
use Rattle.p10_core.specs.Typed.{PlainStatement, statements_list, statements_of_list, PlainFunction, PlainProgram}
use Rattle.p10_meaning.specs.declared.pointers.Scalar.{Scalar}
use Rattle.p10_meaning.specs.States.{State, AssertionFailed as HasFailed, Undefined as IsUndefined, StepsSpent as HasSpent, Progress, gives, ends, step, and_then}
use Rattle.p10_meaning.specs.Scalars.{is_true}
use Rattle.p10_meaning.specs.Statements.{Frame, normal, goes, go_on, execute_from}
use Rattle.p10_meaning.specs.Calling.{Depth, no_depth, deeper, raised, Entered, entered, setting_of, call_at}
use Rattle.p10_meaning.specs.Runs.{status, Task, task_turn}
use Rattle.p10_interp.specs.Stages.{Stage, at_loop, over, stage_by, turn_by}
use Rattle.p10_interp.specs.declared.ended.Ended.{Ended}
use Rattle.p10_interp.specs.declared.ended.Ended.TheVariants.{AtLoop, TurnDone, Returned, AssertionFailed, Undefined, StepsSpent}
use Rattle.p10_interp.specs.private.Tasks.{execute_statement, Operand, evaluated, located, Open, Left}
use Rattle.p10_interp.specs.private.Operations.{first_value, below, on_call}
use Rattle.p10_interp.specs.private.Resuming.{setting_in, proceed}

-- the frame of the innermost call
abbrev pub frame_in : List Open → Frame
frame_in [] = record { held = []; opened = [] }
frame_in (f ∷ calls) = f.frame

-- the value with which a run ends, where all of `main` was called: what the call gave
abbrev pub status_in : List Operand → ℤ
status_in [] = pos 0
status_in (evaluated x ∷ operands) = status x
status_in (located target ∷ operands) = pos 0

-- after the call of `main`
abbrev pub after_main : Left → State → Progress Stage
after_main left w = gives (over (status_in left.operands)) w

-- after the items of `main` before its task loop: the step of that loop's statement
abbrev pub after_items : Left → State → Progress Stage
after_items left w =
    and_then (go_on left.flow (frame_in left.calls) w (λ frame w. step w (λ w. goes frame w))) (λ done w. stage_by done.flow done.frame w)

-- after the body of the task loop
abbrev pub after_turn : Left → State → Progress Stage
after_turn left w = turn_by left.flow (frame_in left.calls) w

-- the body of the task loop, and what comes after it
abbrev pub body_stage : PlainProgram → ℕ → PlainStatement → List Operand → List Open → State → Progress Stage
body_stage p n body operands calls w =
    and_then (proceed p n (record { flow = normal; tasks = execute_statement body ∷ []; operands = operands; calls = calls }) w) after_turn

-- after the test of the task loop
abbrev pub tested_stage : PlainProgram → ℕ → PlainStatement → Option Scalar → List Operand → List Open → State → Progress Stage
tested_stage p n body None operands calls w = gives (over (pos 0)) w
tested_stage p n body (Some x) operands calls w = if is_true x then body_stage p n body operands calls w else gives (over (pos 0)) w

abbrev pub after_test : PlainProgram → ℕ → PlainStatement → Left → State → Progress Stage
after_test p n body left w = tested_stage p n body (first_value left.operands) (below left.operands) left.calls w

-- what comes of a part that ended with an answer, where `main` has this frame
abbrev pub stage_of : Ended → Frame → State → Progress Stage
stage_of AtLoop frame w = gives (at_loop frame) w
stage_of TurnDone frame w = gives (at_loop frame) w
stage_of (Returned z) frame w = gives (over z) w
stage_of (AssertionFailed span) frame w = ends (HasFailed span) w
stage_of (Undefined stop span) frame w = ends (IsUndefined stop span) w
stage_of StepsSpent frame w = ends HasSpent w

-- `main` was entered, and the items before its task loop come next
abbrev pub entered_stage : PlainProgram → ℕ → PlainFunction → ℕ → State → Progress Stage
entered_stage p n f i w =
    let start : Entered = entered f.variables [] (raised (deeper f no_depth) w) in
    and_then (and_then (execute_from (setting_of p n (call_at n p) (deeper f no_depth) f) 0 (statements_of_list (take i (statements_list f.body))) start.frame start.state)
    (λ done w. go_on done.flow done.frame w (λ frame w. step w (λ w. goes frame w)))) (λ done w. stage_by done.flow done.frame w)

-- a turn of a task loop, if there is one, in the innermost call
abbrev pub part_of_turn : PlainProgram → ℕ → Option Task → List Open → State → Progress Stage
part_of_turn p n None calls w = gives (over (pos 0)) w
part_of_turn p n (Some task) calls w =
    on_call calls w (λ g calls. and_then (task_turn (setting_in p n g) task g.frame w) (λ done w. turn_by done.flow done.frame w))

-- the innermost call is one of a function, at a depth
abbrev pub StandsAt : PlainFunction → Depth → List Open → List Open → Type 0
StandsAt f depth [] now = ⊥
StandsAt f depth (g ∷ calls) now = now ≡ record g { function = f; depth = depth } ∷ calls

-- the innermost call is one of a function that was called where no other call is open
abbrev pub StandsIn : PlainFunction → List Open → List Open → Type 0
StandsIn f calls now = StandsAt f (deeper f no_depth) calls now
