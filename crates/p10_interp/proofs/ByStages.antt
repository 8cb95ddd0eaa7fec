-- A run is its first part and then its turns.
use Rattle.std.proofs.Common.{◌≡◌, ℕ, zero, suc, [], refl, slice_get, Option, Some, None}
use Rattle.p10_core.specs.Typed.{PlainFunction, PlainProgram, statements_list}
use Rattle.p10_meaning.specs.declared.pointers.Scalar.{Scalar}
use Rattle.p10_meaning.specs.States.{State, Progress, gives, ends, and_then}
use Rattle.p10_meaning.specs.Statements.{Frame, Flow, normal, broken, continued, returned, Done}
use Rattle.p10_meaning.specs.Calling.{no_depth, deeper, setting_of, call_at}
use Rattle.p10_meaning.specs.Opening.{opening}
use Rattle.p10_meaning.specs.Runs.{Ran, ran_call, Task, task_in, task_turn, before_task, after_turn, run_turns, after_part, run_task, run_main}
use Rattle.p10_interp.specs.Stages.{Stage, at_loop, over_with, stage_by, turn_by, task_of_main, first_part, turn_part, ran_stages, RunsByStages}

-- all of `main`
call_ran : (o : Progress (Option Scalar)) (turn : Frame → State → Progress Stage) (budget n : ℕ) → ran_call o ≡ ran_stages turn budget n 0 (over_with o)
call_ran (gives x w) turn budget n = refl
call_ran (ends end w) turn budget n = refl

-- a turn
turn_ran : (o : Progress Done) (next : Frame → State → Ran) (turn : Frame → State → Progress Stage) (budget n made : ℕ) →
    ((frame : Frame) (w : State) → next frame w ≡ ran_stages turn budget n made (gives (at_loop frame) w)) →
    after_turn o next ≡ ran_stages turn budget n made (and_then o (λ done w. turn_by done.flow done.frame w))
turn_ran (ends end w) next turn budget n made h = refl
turn_ran (gives done w) next turn budget n made h = by done.flow done.frame w
  where
    by : (flow : Flow) (frame : Frame) (w : State) → after_turn (gives (record { flow = flow; frame = frame }) w) next ≡ ran_stages turn budget n made (turn_by flow frame w)
    by normal frame w = h frame w
    by continued frame w = h frame w
    by broken frame w = refl
    by (returned x) frame w = refl

-- the first part
part_ran : (o : Progress Done) (next : Frame → State → Ran) (turn : Frame → State → Progress Stage) (budget n : ℕ) →
    ((frame : Frame) (w : State) → next frame w ≡ ran_stages turn budget n 0 (gives (at_loop frame) w)) →
    after_part o next ≡ ran_stages turn budget n 0 (and_then o (λ done w. stage_by done.flow done.frame w))
part_ran (ends end w) next turn budget n h = refl
part_ran (gives done w) next turn budget n h = by done.flow done.frame w
  where
    by : (flow : Flow) (frame : Frame) (w : State) → after_part (gives (record { flow = flow; frame = frame }) w) next ≡ ran_stages turn budget n 0 (stage_by flow frame w)
    by normal frame w = h frame w
    by continued frame w = refl
    by broken frame w = refl
    by (returned x) frame w = refl

turns_ran : (turn : Frame → State → Progress Done) (budget n made : ℕ) (frame : Frame) (w : State) →
    run_turns n made turn budget frame w ≡ ran_stages (λ frame w. and_then (turn frame w) (λ done w. turn_by done.flow done.frame w)) budget n made (gives (at_loop frame) w)
turns_ran turn budget zero made frame w = refl
turns_ran turn budget (suc n) made frame w =
    turn_ran (turn frame (record w { left = budget })) (λ frame w. run_turns n (suc made) turn budget frame w) (λ frame w. and_then (turn frame w) (λ done w. turn_by done.flow done.frame w)) budget n (suc made) (λ frame w. turns_ran turn budget n (suc made) frame w)

main_ran : (p : PlainProgram) (prefix budget n : ℕ) (f : Option PlainFunction) (i : Option ℕ) (w : State) →
    run_main p prefix budget n f i w ≡ ran_stages (turn_part p budget f (task_of_main f i)) budget n 0 (first_part p prefix f i (task_of_main f i) w)
main_ran p prefix budget n None i w = call_ran (call_at prefix p no_depth p.main [] w) (turn_part p budget None (task_of_main None i)) budget n
main_ran p prefix budget n (Some f) None w = call_ran (call_at prefix p no_depth p.main [] w) (turn_part p budget (Some f) (task_of_main (Some f) None)) budget n
main_ran p prefix budget n (Some f) (Some i) w = task_ran (task_in (slice_get (statements_list f.body) i))
  where
    task_ran : (task : Option Task) → run_task p prefix budget n f i task w ≡ ran_stages (turn_part p budget (Some f) task) budget n 0 (first_part p prefix (Some f) (Some i) task w)
    task_ran None = call_ran (call_at prefix p no_depth p.main [] w) (turn_part p budget (Some f) None) budget n
    task_ran (Some task) =
        part_ran (before_task (setting_of p prefix (call_at prefix p) (deeper f no_depth) f) f i (deeper f no_depth) w)
        (λ frame w. run_turns n 0 (task_turn (setting_of p budget (call_at budget p) (deeper f no_depth) f) task) budget frame w) (turn_part p budget (Some f) (Some task)) budget n
        (λ frame w. turns_ran (task_turn (setting_of p budget (call_at budget p) (deeper f no_depth) f) task) budget n 0 frame w)

pub runs_by_stages : RunsByStages
runs_by_stages p world prefix turn n = main_ran p prefix turn n (slice_get p.functions p.main) p.task (opening p world prefix)
