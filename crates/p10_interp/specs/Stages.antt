-- A whole run, as the calls of a machine take it: `main`, or the part of it before its task loop, and then one turn after another.
use Rattle.std.specs.Prelude.{◌≡◌, ℕ, zero, suc, [], slice_get, ℤ, pos, Option, Some, None}
use Rattle.p10_core.specs.Typed.{PlainFunction, PlainProgram, statements_list}
use Rattle.p10_meaning.specs.declared.pointers.Scalar.{Scalar}
use Rattle.p10_meaning.specs.declared.world.World.{World}
use Rattle.p10_meaning.specs.States.{State, Progress, gives, ends, and_then}
use Rattle.p10_meaning.specs.Statements.{Frame, Flow, normal, broken, continued, returned}
use Rattle.p10_meaning.specs.Calling.{no_depth, deeper, setting_of, call_at}
use Rattle.p10_meaning.specs.Opening.{opening}
use Rattle.p10_meaning.specs.Runs.{Returned, Turns, Ended, Ran, ran, status, Task, task_in, task_turn, before_task, run_of}

-- how far a run has come: to its task loop, with the frame of `main`, or to its end, with the value that it returns
pub data Stage : Type 0 where
  at_loop : Frame → Stage
  over : ℤ → Stage

-- all of `main` was run
abbrev pub over_with : Progress (Option Scalar) → Progress Stage
over_with o = and_then o (λ x w. gives (over (status x)) w)

-- the part of `main` before its task loop was run: the loop comes next, or `main` has returned
abbrev pub stage_by : Flow → Frame → State → Progress Stage
stage_by normal frame w = gives (at_loop frame) w
stage_by (returned x) frame w = gives (over (status x)) w
stage_by broken frame w = gives (over (pos 0)) w
stage_by continued frame w = gives (over (pos 0)) w

-- a turn was made: the loop comes next, or it was left, or `main` has returned
abbrev pub turn_by : Flow → Frame → State → Progress Stage
turn_by normal frame w = gives (at_loop frame) w
turn_by continued frame w = gives (at_loop frame) w
turn_by broken frame w = gives (over (pos 0)) w
turn_by (returned x) frame w = gives (over (status x)) w

-- the task loop of `main`, if it has one
abbrev pub task_of_main : Option PlainFunction → Option ℕ → Option Task
task_of_main (Some f) (Some i) = task_in (slice_get (statements_list f.body) i)
task_of_main f i = None

-- `main` up to its task loop, with a budget n, or all of it where it has none
abbrev pub first_part : PlainProgram → ℕ → Option PlainFunction → Option ℕ → Option Task → State → Progress Stage
first_part p n (Some f) (Some i) (Some task) w =
    and_then (before_task (setting_of p n (call_at n p) (deeper f no_depth) f) f i (deeper f no_depth) w) (λ done w. stage_by done.flow done.frame w)
first_part p n f i task w = over_with (call_at n p no_depth p.main [] w)

abbrev pub first_stage : PlainProgram → ℕ → State → Progress Stage
first_stage p n w = first_part p n (slice_get p.functions p.main) p.task (task_of_main (slice_get p.functions p.main) p.task) w

-- one turn of the task loop, with a budget n, where `main` has this frame; without a loop there is none
abbrev pub turn_part : PlainProgram → ℕ → Option PlainFunction → Option Task → Frame → State → Progress Stage
turn_part p n (Some f) (Some task) frame w =
    and_then (task_turn (setting_of p n (call_at n p) (deeper f no_depth) f) task frame w) (λ done w. turn_by done.flow done.frame w)
turn_part p n f task frame w = gives (over (pos 0)) w

abbrev pub turn_stage : PlainProgram → ℕ → Frame → State → Progress Stage
turn_stage p n frame w = turn_part p n (slice_get p.functions p.main) (task_of_main (slice_get p.functions p.main) p.task) frame w

-- at most n turns after those that were made, each with a fresh budget
abbrev pub ran_stages : (Frame → State → Progress Stage) → ℕ → ℕ → ℕ → Progress Stage → Ran
ran_stages turn budget n made (ends end w) = ran (Ended end) w
ran_stages turn budget n made (gives (over z) w) = ran (Returned z) w
ran_stages turn budget zero made (gives (at_loop frame) w) = ran (Turns made) w
ran_stages turn budget (suc n) made (gives (at_loop frame) w) = ran_stages turn budget n (suc made) (turn frame (record w { left = budget }))

-- a run is its first part and then its turns
abbrev pub RunsByStages : Type 0
RunsByStages =
    (p : PlainProgram) (world : World) (prefix turn n : ℕ) →
    run_of p world prefix turn n ≡ ran_stages (turn_stage p turn) turn n 0 (first_stage p prefix (opening p world prefix))
