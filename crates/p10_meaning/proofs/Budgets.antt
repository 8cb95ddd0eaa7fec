-- A run that doesn't run out of steps gives the same with greater budgets.
use Rattle.std.proofs.Common.{◌≡◌, ◌≢◌, ℕ, zero, suc, ◌+◌, ◌≤◌, true, [], refl, sym, ◌∙◌, ap, subst, arith, Option, Some, None, slice_get, take}
use Rattle.p10_core.specs.Typed.{PlainValue, statements_list, statements_of_list, PlainFunction, PlainProgram}
use Rattle.p10_meaning.specs.declared.pointers.Scalar.{Scalar}
use Rattle.p10_meaning.specs.States.{State, AssertionFailed, Undefined, StepsSpent, Progress, gives, ends, step, and_then}
use Rattle.p10_meaning.specs.Statements.{Frame, Flow, normal, broken, continued, returned, Done, goes, go_on, execute_from}
use Rattle.p10_meaning.specs.Calling.{Depth, no_depth, deeper, raised, Entered, entered, setting_of, call_at}
use Rattle.p10_meaning.specs.Opening.{opening}
use Rattle.p10_meaning.specs.Runs.{Ended, Ran, ran_call, Task, task_in, task_test, task_turn, after_turn, run_turns, before_task, after_part, run_task, run_main}
use Rattle.p10_meaning.specs.Laws.{with_more, RunsNeedNoMore}
use Rattle.p10_meaning.proofs.Following.{follows_trans, follows_raised}
use Rattle.p10_meaning.proofs.Agreeing.{IsSame, Agrees, CallsAgree, agrees_from, agrees_here, agrees_then, agrees_step, agrees_if}
use Rattle.p10_meaning.proofs.AgreeingValues.{more_than}
use Rattle.p10_meaning.proofs.AgreeingStatements.{go_agrees, test_agrees, execute_agrees, from_agrees}
use Rattle.p10_meaning.proofs.AgreeingCalls.{IsEntry, entered_more, entered_is, calls_agree}

at_most : (a : ℕ) → a ≤ a
at_most a = omega arith

-- ## All of `main`

call_same : (k : ℕ) (o other : Progress (Option Scalar)) → IsSame k o other → (ran_call o).outcome ≢ Ended StepsSpent → ran_call other ≡ ran_call o
call_same k (gives x w) other e h = ap (λ o. ran_call o) e
call_same k (ends (AssertionFailed span) w) other e h = ap (λ o. ran_call o) e
call_same k (ends (Undefined stop span) w) other e h = ap (λ o. ran_call o) e
call_same k (ends StepsSpent w) other e h = absurd (h refl)

all_same : (k : ℕ) (p : PlainProgram) (prefix : ℕ) (w : State) → w.left ≡ prefix → (ran_call (call_at prefix p no_depth p.main [] w)).outcome ≢ Ended StepsSpent →
    ran_call (call_at (prefix + k) p no_depth p.main [] (with_more k w)) ≡ ran_call (call_at prefix p no_depth p.main [] w)
all_same k p prefix w e h =
    let c : CallsAgree k prefix (call_at prefix p no_depth) (call_at (prefix + k) p no_depth) = calls_agree k prefix (prefix + k) p prefix (at_most prefix) (at_most (prefix + k)) no_depth in
    call_same k _ _ (c.agree p.main [] w prefix (at_most prefix) (omega (arith, e))).same h

-- ## Turns

task_agrees : (k most : ℕ) (p : PlainProgram) (depth : Depth) (f : PlainFunction) (task : Task) (frame : Frame) (w : State) → w.left ≤ most →
    Agrees k most w (task_turn (setting_of p most (call_at most p) depth f) task frame w) (task_turn (setting_of p (most + k) (call_at (most + k) p) depth f) task frame (with_more k w))
task_agrees k most p depth f task frame w l =
    agrees_then k most most w _ _ _ _ (test_part task.tested)
    (λ more w l. agrees_if k most w more _ _ _ _
    (execute_agrees k most p f.variables (call_at most p depth) (call_at (most + k) p depth) most (most + k) (calls_agree k most (most + k) p most (at_most most) (at_most (most + k)) depth)
    (at_most most) (at_most (most + k)) task.body frame w most (at_most most) l)
    (agrees_here k most _ w l))
  where
    test_part : (tested : Option PlainValue) → Agrees k most w (task_test (setting_of p most (call_at most p) depth f) tested frame w)
        (task_test (setting_of p (most + k) (call_at (most + k) p) depth f) tested frame (with_more k w))
    test_part None = agrees_here k most true w l
    test_part (Some v) = test_agrees k most p f.variables (call_at most p depth) (call_at (most + k) p depth) most (most + k)
        (calls_agree k most (most + k) p most (at_most most) (at_most (most + k)) depth) (at_most most) (at_most (most + k)) (Some v) frame w most (at_most most) (more_than w.left most l)

-- a turn and the same with k more steps, and what comes after them
turn_same : (k : ℕ) (o other : Progress Done) (next next_other : Frame → State → Ran) → IsSame k o other →
    ((frame : Frame) (w : State) → (next frame w).outcome ≢ Ended StepsSpent → next_other frame (with_more k w) ≡ next frame w) →
    (after_turn o next).outcome ≢ Ended StepsSpent → after_turn other next_other ≡ after_turn o next
turn_same k (gives done w) other next next_other e go h = ap (λ o. after_turn o next_other) e ∙ case done.flow h
  where
    case : (flow : Flow) → (after_turn (gives (record { flow = flow; frame = done.frame }) w) next).outcome ≢ Ended StepsSpent →
        after_turn (gives (record { flow = flow; frame = done.frame }) (with_more k w)) next_other ≡ after_turn (gives (record { flow = flow; frame = done.frame }) w) next
    case normal h = go done.frame w h
    case continued h = go done.frame w h
    case broken h = refl
    case (returned x) h = refl
turn_same k (ends (AssertionFailed span) w) other next next_other e go h = ap (λ o. after_turn o next_other) e
turn_same k (ends (Undefined stop span) w) other next next_other e go h = ap (λ o. after_turn o next_other) e
turn_same k (ends StepsSpent w) other next next_other e go h = absurd (h refl)

turns_same : (n made j k : ℕ) (p : PlainProgram) (depth : Depth) (f : PlainFunction) (task : Task) (budget : ℕ) (frame : Frame) (w : State) →
    (run_turns n made (task_turn (setting_of p budget (call_at budget p) depth f) task) budget frame w).outcome ≢ Ended StepsSpent →
    run_turns n made (task_turn (setting_of p (budget + k) (call_at (budget + k) p) depth f) task) (budget + k) frame (with_more j w) ≡
    run_turns n made (task_turn (setting_of p budget (call_at budget p) depth f) task) budget frame w
turns_same zero made j k p depth f task budget frame w h = refl
turns_same (suc n) made j k p depth f task budget frame w h =
    turn_same k _ _ _ _ (task_agrees k budget p depth f task frame (record w { left = budget }) (at_most budget)).same
    (λ frame w h. turns_same n (suc made) k k p depth f task budget frame w h) h

-- ## The part before the task loop

part_agrees : (k prefix : ℕ) (p : PlainProgram) (depth : Depth) (f : PlainFunction) (i : ℕ) (w : State) → w.left ≤ prefix →
    Agrees k prefix w (before_task (setting_of p prefix (call_at prefix p) depth f) f i depth w) (before_task (setting_of p (prefix + k) (call_at (prefix + k) p) depth f) f i depth (with_more k w))
part_agrees k prefix p depth f i w l = agrees_step k prefix w _ _ (more_than w.left prefix l) (λ n l. entry (record w { left = n }) l)
  where
    from : (v : State) → v.left ≤ prefix → (start : Entered) → IsEntry (raised depth v) start →
        Agrees k prefix v (and_then (execute_from (setting_of p prefix (call_at prefix p) depth f) 0 (statements_of_list (take i (statements_list f.body))) start.frame start.state)
        (λ done w. go_on done.flow done.frame w (λ frame w. step w (λ w. goes frame w))))
        (and_then (execute_from (setting_of p (prefix + k) (call_at (prefix + k) p) depth f) 0 (statements_of_list (take i (statements_list f.body))) start.frame (with_more k start.state))
        (λ done w. go_on done.flow done.frame w (λ frame w. step w (λ w. goes frame w))))
    from v l start e = agrees_from k prefix v start.state _ _ (follows_trans v (raised depth v) start.state (follows_raised v depth) e.follows)
        (agrees_then k prefix prefix start.state _ _ _ _
        (from_agrees k prefix p f.variables (call_at prefix p depth) (call_at (prefix + k) p depth) prefix (prefix + k)
        (calls_agree k prefix (prefix + k) p prefix (at_most prefix) (at_most (prefix + k)) depth) (at_most prefix) (at_most (prefix + k))
        0 (statements_of_list (take i (statements_list f.body))) start.frame start.state prefix (at_most prefix) (subst (λ i. i ≤ prefix) (sym e.left) l))
        (λ done w l. go_agrees k prefix done.flow done.frame w (λ frame w. step w (λ w. goes frame w)) (λ frame w. step w (λ w. goes frame w)) l
        (agrees_step k prefix w _ _ (more_than w.left prefix l) (λ n l. agrees_here k prefix _ (record w { left = n }) l))))

    entry : (v : State) → v.left ≤ prefix →
        Agrees k prefix v (and_then (execute_from (setting_of p prefix (call_at prefix p) depth f) 0 (statements_of_list (take i (statements_list f.body))) (entered f.variables [] (raised depth v)).frame (entered f.variables [] (raised depth v)).state)
        (λ done w. go_on done.flow done.frame w (λ frame w. step w (λ w. goes frame w))))
        (and_then (execute_from (setting_of p (prefix + k) (call_at (prefix + k) p) depth f) 0 (statements_of_list (take i (statements_list f.body))) (entered f.variables [] (raised depth (with_more k v))).frame (entered f.variables [] (raised depth (with_more k v))).state)
        (λ done w. go_on done.flow done.frame w (λ frame w. step w (λ w. goes frame w))))
    entry v l =
        subst (λ (start : Entered). Agrees k prefix v (and_then (execute_from (setting_of p prefix (call_at prefix p) depth f) 0 (statements_of_list (take i (statements_list f.body))) (entered f.variables [] (raised depth v)).frame (entered f.variables [] (raised depth v)).state)
        (λ done w. go_on done.flow done.frame w (λ frame w. step w (λ w. goes frame w))))
        (and_then (execute_from (setting_of p (prefix + k) (call_at (prefix + k) p) depth f) 0 (statements_of_list (take i (statements_list f.body))) start.frame start.state)
        (λ done w. go_on done.flow done.frame w (λ frame w. step w (λ w. goes frame w)))))
        (sym (entered_more k f.variables [] (raised depth v)))
        (from v l (entered f.variables [] (raised depth v)) (entered_is f.variables [] (raised depth v)))

part_same : (k : ℕ) (o other : Progress Done) (next next_other : Frame → State → Ran) → IsSame k o other →
    ((frame : Frame) (w : State) → (next frame w).outcome ≢ Ended StepsSpent → next_other frame (with_more k w) ≡ next frame w) →
    (after_part o next).outcome ≢ Ended StepsSpent → after_part other next_other ≡ after_part o next
part_same k (gives done w) other next next_other e go h = ap (λ o. after_part o next_other) e ∙ case done.flow h
  where
    case : (flow : Flow) → (after_part (gives (record { flow = flow; frame = done.frame }) w) next).outcome ≢ Ended StepsSpent →
        after_part (gives (record { flow = flow; frame = done.frame }) (with_more k w)) next_other ≡ after_part (gives (record { flow = flow; frame = done.frame }) w) next
    case normal h = go done.frame w h
    case continued h = refl
    case broken h = refl
    case (returned x) h = refl
part_same k (ends (AssertionFailed span) w) other next next_other e go h = ap (λ o. after_part o next_other) e
part_same k (ends (Undefined stop span) w) other next next_other e go h = ap (λ o. after_part o next_other) e
part_same k (ends StepsSpent w) other next next_other e go h = absurd (h refl)

-- ## Whole runs

task_same : (p : PlainProgram) (prefix budget n j k : ℕ) (f : PlainFunction) (i : ℕ) (task : Option Task) (w : State) → w.left ≡ prefix →
    (run_task p prefix budget n f i task w).outcome ≢ Ended StepsSpent → run_task p (prefix + j) (budget + k) n f i task (with_more j w) ≡ run_task p prefix budget n f i task w
task_same p prefix budget n j k f i None w e h = all_same j p prefix w e h
task_same p prefix budget n j k f i (Some task) w e h =
    part_same j _ _ _ _ (part_agrees j prefix p (deeper f no_depth) f i w (omega (arith, e))).same
    (λ frame w h. turns_same n 0 j k p (deeper f no_depth) f task budget frame w h) h

main_same : (p : PlainProgram) (prefix budget n j k : ℕ) (f : Option PlainFunction) (i : Option ℕ) (w : State) → w.left ≡ prefix →
    (run_main p prefix budget n f i w).outcome ≢ Ended StepsSpent → run_main p (prefix + j) (budget + k) n f i (with_more j w) ≡ run_main p prefix budget n f i w
main_same p prefix budget n j k (Some f) (Some i) w e h = task_same p prefix budget n j k f i (task_in (slice_get (statements_list f.body) i)) w e h
main_same p prefix budget n j k (Some f) None w e h = all_same j p prefix w e h
main_same p prefix budget n j k None (Some i) w e h = all_same j p prefix w e h
main_same p prefix budget n j k None None w e h = all_same j p prefix w e h

pub runs_need_no_more : RunsNeedNoMore
runs_need_no_more p world prefix turn n j k h = main_same p prefix turn n j k (slice_get p.functions p.main) p.task (opening p world prefix) refl h
