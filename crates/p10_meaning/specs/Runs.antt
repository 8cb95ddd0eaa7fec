-- Whole runs, and what it is to stay within bounds (C99 5.1.2.2, 5.1.2.3).
use Rattle.std.specs.Prelude.{◌≡◌, ◌≢◌, ℕ, zero, suc, ◌≤◌, if◌then◌else◌, Bool, true, List, [], take, slice_get, ℤ, pos, Option, Some, None}
use Rattle.p10_base.specs.declared.report.Bounds.{Bounds}
use Rattle.p10_core.specs.Typed.{PlainValue, PlainStatement, statement, loop, statements_list, statements_of_list, PlainFunction, PlainProgram}
use Rattle.p10_meaning.specs.declared.pointers.Scalar.{Scalar}
use Rattle.p10_meaning.specs.declared.world.World.{World}
use Rattle.p10_meaning.specs.States.{IsWorld, State, End, StepsSpent, Progress, gives, ends, step, and_then}
use Rattle.p10_meaning.specs.Scalars.{number_of}
use Rattle.p10_meaning.specs.Values.{Setting}
use Rattle.p10_meaning.specs.Statements.{Frame, Flow, normal, broken, continued, returned, Done, flows, goes, go_on, test, execute, execute_from}
use Rattle.p10_meaning.specs.Calling.{Depth, no_depth, deeper, raised, Entered, entered, setting_of, call_at}
use Rattle.p10_meaning.specs.Opening.{opening}

-- how a run ends: `main` returned a value, n turns of the task loop were made, or it ended on the way
pub data Outcome : Type 0 where
  Returned : ℤ → Outcome
  Turns : ℕ → Outcome
  Ended : End → Outcome

-- what a run gives: how it ends, its output, the greatest depths in calls and in bytes, and how many allocations and `free`s
-- were executed after the mark
pub record Ran : Type 0 where
  pub outcome : Outcome
  pub output : List ℕ
  pub calls : ℕ
  pub bytes : ℕ
  pub after : ℕ

-- what a run gives that ends in a state
abbrev pub ran : Outcome → State → Ran
ran outcome w = record { outcome = outcome; output = w.output; calls = w.calls; bytes = w.bytes; after = w.after_mark }

-- `main` that ends without `return` returns 0 (C99 5.1.2.2.3)
abbrev pub status : Option Scalar → ℤ
status None = pos 0
status (Some x) = number_of x

-- a run of all of `main`
abbrev pub ran_call : Progress (Option Scalar) → Ran
ran_call (gives x w) = ran (Returned (status x)) w
ran_call (ends end w) = ran (Ended end) w

-- a task loop: its test, if it has one, and its body
pub record Task : Type 0 where
  pub tested : Option PlainValue
  pub body : PlainStatement

-- the task loop that a statement is
abbrev pub task_in : Option PlainStatement → Option Task
task_in (Some (statement at (loop head first tested third body))) = Some (record { tested = tested; body = body })
task_in s = None

-- the test of a task loop is executed in each turn; where there is none, nothing is in its place
abbrev pub task_test : Setting → Option PlainValue → Frame → State → Progress Bool
task_test s None frame w = gives true w
task_test s (Some v) frame w = test s (Some v) frame w

-- one turn of the task loop: its test and its body
abbrev pub task_turn : Setting → Task → Frame → State → Progress Done
task_turn s task frame w = and_then (task_test s task.tested frame w) (λ more w. if more then execute s task.body frame w else flows broken frame w)

-- a turn that ends, or comes to a `continue`, is followed by the next; one that leaves the loop by `break` ends the run as a return of 0
abbrev pub after_turn : Progress Done → (Frame → State → Ran) → Ran
after_turn (ends end w) next = ran (Ended end) w
after_turn (gives done w) next = by done.flow
  where
    by : Flow → Ran
    by normal = next done.frame w
    by continued = next done.frame w
    by broken = ran (Returned (pos 0)) w
    by (returned x) = ran (Returned (status x)) w

-- at most n turns of the task loop after those that were made, each with a fresh budget
abbrev pub run_turns : ℕ → ℕ → (Frame → State → Progress Done) → ℕ → Frame → State → Ran
run_turns zero made turn budget frame w = ran (Turns made) w
run_turns (suc n) made turn budget frame w =
    after_turn (turn frame (record w { left = budget })) (λ frame w. run_turns n (suc made) turn budget frame w)

-- the part of `main` before its task loop: its entry, as that of any call, the items before the loop, and that loop's
-- statement step
abbrev pub before_task : Setting → PlainFunction → ℕ → Depth → State → Progress Done
before_task s f i depth w =
    step w (λ w. let start : Entered = entered f.variables [] (raised depth w) in
    and_then (execute_from s 0 (statements_of_list (take i (statements_list f.body))) start.frame start.state)
    (λ done w. go_on done.flow done.frame w (λ frame w. step w (λ w. goes frame w))))

-- the turns come after that part, where it doesn't return
abbrev pub after_part : Progress Done → (Frame → State → Ran) → Ran
after_part (ends end w) next = ran (Ended end) w
after_part (gives done w) next = by done.flow
  where
    by : Flow → Ran
    by normal = next done.frame w
    by (returned x) = ran (Returned (status x)) w
    by flow = ran (Returned (pos 0)) w

-- a run of `main` with a task loop, which is item i of its body
abbrev pub run_task : PlainProgram → ℕ → ℕ → ℕ → PlainFunction → ℕ → Option Task → State → Ran
run_task p prefix budget n f i None w = ran_call (call_at prefix p no_depth p.main [] w)
run_task p prefix budget n f i (Some task) w =
    let depth : Depth = deeper f no_depth in
    after_part (before_task (setting_of p prefix (call_at prefix p) depth f) f i depth w)
    (λ frame w. run_turns n 0 (task_turn (setting_of p budget (call_at budget p) depth f) task) budget frame w)

-- a run of `main`, with or without a task loop
abbrev pub run_main : PlainProgram → ℕ → ℕ → ℕ → Option PlainFunction → Option ℕ → State → Ran
run_main p prefix budget n (Some f) (Some i) w = run_task p prefix budget n f i (task_in (slice_get (statements_list f.body) i)) w
run_main p prefix budget n f i w = ran_call (call_at prefix p no_depth p.main [] w)

-- a run of a program in a world: from the opening state `main` is entered with the budget `prefix`; where it has a task loop, it
-- runs up to it, and then at most n turns are made, each with the fresh budget `turn`
abbrev pub run_of : PlainProgram → World → ℕ → ℕ → ℕ → Ran
run_of p world prefix turn n = run_main p prefix turn n (slice_get p.functions p.main) p.task (opening p world prefix)

-- ## Bounds

-- a run stays within bounds: it doesn't run out of steps, its depths are no greater, and nothing is allocated or freed
-- after the mark
pub record IsWithin (b : Bounds) (r : Ran) : Type 0 where
  pub steps : r.outcome ≢ Ended StepsSpent
  pub calls : r.calls ≤ b.calls
  pub bytes : r.bytes ≤ b.bytes
  pub after : r.after ≡ 0

-- every run of a program with the budgets of the bounds stays within them, in every world and for every number of turns
pub record Within (p : PlainProgram) (b : Bounds) : Type 0 where
  pub every : (world : World) → IsWorld world → (n : ℕ) → IsWithin b (run_of p world b.prefix b.turn n)
