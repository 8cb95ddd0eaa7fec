-- The parts of a run are work on the stacks, and what comes after it.
use Rattle.std.proofs.Common.{◌≡◌, ℕ, zero, suc, ◌≤◌, Bool, true, false, List, [], ◌∷◌, refl, sym, ◌∙◌, ap, subst, ◌++◌, slice_get, Option, Some, None, Result, Ok, Err, IfOk, IfErr, arith, pos}
use Rattle.std.specs.Prelude.{if◌then◌else◌, take, is_some}
use Rattle.p10_core.specs.Typed.{PlainValue, PlainStatement, PlainStatements, statements_list, statements_of_list, PlainFunction, PlainProgram}
use Rattle.p10_meaning.specs.declared.pointers.Scalar.{Scalar}
use Rattle.p10_meaning.specs.States.{State, AssertionFailed, Undefined as IsUndefined, StepsSpent, Progress, gives, ends, step_at, step, and_then}
use Rattle.p10_meaning.specs.Scalars.{is_true}
use Rattle.p10_meaning.specs.Values.{evaluate}
use Rattle.p10_meaning.specs.Statements.{Frame, Flow, normal, broken, continued, returned, Done, flows, goes, go_on, execute, execute_from}
use Rattle.p10_meaning.specs.Calling.{no_depth, deeper, raised, Entered, entered, setting_of, call_at}
use Rattle.p10_meaning.specs.Runs.{Task, status}
use Rattle.p10_interp.specs.Stages.{Stage, at_loop, over, over_with, stage_by, turn_by, task_of_main, first_part, first_stage, turn_part, turn_stage}
use Rattle.p10_meaning.specs.Laws.{Extends, EndsAfter}
use Rattle.p10_meaning.proofs.Following.{extends_same, extends_trans, follows_same, follows_left, follows_trans, follows_raised}
use Rattle.p10_meaning.proofs.Agreeing.{after_trans}
use Rattle.p10_meaning.proofs.AgreeingCalls.{IsEntry, entered_is}
use Rattle.p10_interp.specs.private.Tasks.{Task as Work, evaluate_value, call_function, execute_statement, execute_statements, Operand, evaluated, Open, Left, Rig}
use Rattle.p10_interp.specs.private.Operations.{first_value, below, with_frame}
use Rattle.p10_interp.specs.private.Resuming.{setting_in, proceed, by_flow, after_done}
use Rattle.p10_interp.specs.private.Parts.{frame_in, status_in, after_main, after_items, entered_stage, after_turn, body_stage, tested_stage, after_test, part_of_turn, StandsIn, stage_of}
use Rattle.p10_interp.specs.Resting.{rest_of, output_of}
use Rattle.p10_interp.specs.declared.broken.Broken.{Broken}
use Rattle.p10_interp.specs.declared.ended.Ended.{Ended}
use Rattle.p10_interp.specs.declared.ended.Ended.TheVariants.{Returned}
use Rattle.p10_interp.specs.declared.broken.Broken.TheVariants.{Failed, Undefined, Spent, Read, Write, Memory}
use Rattle.p10_interp.specs.private.Serving.{Moment, state_at, Serves, Loses, Comes, Yields}
use Rattle.p10_interp.proofs.Served.{GoesOn, grown, proceed_goes_on, serves_comes, comes_on}

-- ## All of `main`

main_case : (o : Progress (Option Scalar)) → over_with o ≡ and_then (and_then o (λ x w. gives (record { flow = normal; operands = evaluated x ∷ []; calls = [] }) w)) after_main
main_case (gives x w) = refl
main_case (ends end w) = refl

pub whole_main : (p : PlainProgram) (n : ℕ) (w : State) →
    over_with (call_at n p no_depth p.main [] w) ≡ and_then (proceed p n (record { flow = normal; tasks = call_function p.main 0 ∷ []; operands = []; calls = [] }) w) after_main
whole_main p n w = main_case (call_at n p no_depth p.main [] w)

-- ## The items before the task loop

-- `main` as the one open call
abbrev pub main_call : PlainFunction → Frame → Open
main_call f frame = record { function = f; depth = deeper f no_depth; frame = frame; outer = [] }

items_case : (f : Open) (o : Progress Done) →
    and_then (and_then o (λ done w. go_on done.flow done.frame w (λ frame w. step w (λ w. goes frame w)))) (λ done w. stage_by done.flow done.frame w) ≡
    and_then (after_done [] f [] o (λ operands calls w. gives (record { flow = normal; operands = operands; calls = calls }) w) (λ flow operands calls w. gives (record { flow = flow; operands = operands; calls = calls }) w)) after_items
items_case f (ends end w) = refl
items_case f (gives done w) = by done.flow done.frame w
  where
    by : (flow : Flow) (frame : Frame) (w : State) →
        and_then (go_on flow frame w (λ frame w. step w (λ w. goes frame w))) (λ done w. stage_by done.flow done.frame w) ≡
        and_then (by_flow flow [] (with_frame f frame ∷ []) w (λ operands calls w. gives (record { flow = normal; operands = operands; calls = calls }) w) (λ flow operands calls w. gives (record { flow = flow; operands = operands; calls = calls }) w)) after_items
    by normal frame w = refl
    by broken frame w = refl
    by continued frame w = refl
    by (returned x) frame w = refl

-- the items, where `main` was entered
pub items_stage : (p : PlainProgram) (n : ℕ) (f : PlainFunction) (xs : PlainStatements) (frame : Frame) (w : State) →
    and_then (and_then (execute_from (setting_of p n (call_at n p) (deeper f no_depth) f) 0 xs frame w) (λ done w. go_on done.flow done.frame w (λ frame w. step w (λ w. goes frame w)))) (λ done w. stage_by done.flow done.frame w) ≡
    and_then (proceed p n (record { flow = normal; tasks = execute_statements xs ∷ []; operands = []; calls = main_call f frame ∷ [] }) w) after_items
items_stage p n f xs frame w = items_case (main_call f frame) (execute_from (setting_of p n (call_at n p) (deeper f no_depth) f) 0 xs frame w)

-- ## A turn

turn_case : (g : Open) (operands : List Operand) (calls : List Open) (o : Progress Done) →
    and_then o (λ done w. turn_by done.flow done.frame w) ≡
    and_then (after_done operands g calls o (λ operands calls w. gives (record { flow = normal; operands = operands; calls = calls }) w) (λ flow operands calls w. gives (record { flow = flow; operands = operands; calls = calls }) w)) after_turn
turn_case g operands calls (ends end w) = refl
turn_case g operands calls (gives done w) = by done.flow done.frame w
  where
    by : (flow : Flow) (frame : Frame) (w : State) →
        turn_by flow frame w ≡
        and_then (by_flow flow operands (with_frame g frame ∷ calls) w (λ operands calls w. gives (record { flow = normal; operands = operands; calls = calls }) w) (λ flow operands calls w. gives (record { flow = flow; operands = operands; calls = calls }) w)) after_turn
    by normal frame w = refl
    by broken frame w = refl
    by continued frame w = refl
    by (returned x) frame w = refl

module _ (p : PlainProgram) (n : ℕ) (body : PlainStatement) (operands : List Operand) (g : Open) (calls : List Open) where
  -- the body of the loop
  turn_body : (w : State) →
      and_then (execute (setting_in p n g) body g.frame w) (λ done w. turn_by done.flow done.frame w) ≡ body_stage p n body operands (g ∷ calls) w
  turn_body w = turn_case g operands calls (execute (setting_in p n g) body g.frame w)

  more_case : (more : Bool) (w : State) →
      and_then (if more then execute (setting_in p n g) body g.frame w else flows broken g.frame w) (λ done w. turn_by done.flow done.frame w) ≡
      (if more then body_stage p n body operands (g ∷ calls) w else gives (over (pos 0)) w)
  more_case true w = turn_body w
  more_case false w = refl

  test_case : (o : Progress Scalar) →
      and_then (and_then (and_then o (λ x w. gives (is_true x) w)) (λ more w. if more then execute (setting_in p n g) body g.frame w else flows broken g.frame w)) (λ done w. turn_by done.flow done.frame w) ≡
      and_then (and_then o (λ x w. gives (record { flow = normal; operands = evaluated (Some x) ∷ operands; calls = g ∷ calls }) w)) (after_test p n body)
  test_case (ends end w) = refl
  test_case (gives x w) = more_case (is_true x) w

-- the test of the loop comes first
pub turn_tested : (p : PlainProgram) (n : ℕ) (v : PlainValue) (body : PlainStatement) (operands : List Operand) (calls : List Open) (w : State) →
    part_of_turn p n (Some (record { tested = Some v; body = body })) calls w ≡
    and_then (proceed p n (record { flow = normal; tasks = evaluate_value v ∷ []; operands = operands; calls = calls }) w) (after_test p n body)
turn_tested p n v body operands [] w = refl
turn_tested p n v body operands (g ∷ calls) w = test_case p n body operands g calls (evaluate (setting_in p n g) g.frame.held v w)

-- where there is no test, the body
pub turn_untested : (p : PlainProgram) (n : ℕ) (body : PlainStatement) (operands : List Operand) (calls : List Open) (w : State) →
    part_of_turn p n (Some (record { tested = None; body = body })) calls w ≡ body_stage p n body operands calls w
turn_untested p n body operands [] w = refl
turn_untested p n body operands (g ∷ calls) w = turn_body p n body operands g calls w

-- ## Where parts begin

step_then : {A B : Type 0} (n : ℕ) (w : State) (go : State → Progress A) (k : A → State → Progress B) → and_then (step_at n w go) k ≡ step_at n w (λ w. and_then (go w) k)
step_then zero w go k = refl
step_then (suc n) w go k = refl

first_by : (p : PlainProgram) (n : ℕ) (f : PlainFunction) (i : ℕ) (task : Option Task) (w : State) → is_some task ≡ true → first_part p n (Some f) (Some i) task w ≡ step w (entered_stage p n f i)
first_by p n f i None w e = absurd (let no : false ≡ true = e in cc)
first_by p n f i (Some task) w e = step_then w.left w _ (λ done w. stage_by done.flow done.frame w)

-- the first part, where `main` has a task loop
pub first_steps : (p : PlainProgram) (n : ℕ) (f : PlainFunction) (i : ℕ) (w : State) → slice_get p.functions p.main ≡ Some f → p.task ≡ Some i →
    is_some (task_of_main (slice_get p.functions p.main) p.task) ≡ true → first_stage p n w ≡ step w (entered_stage p n f i)
first_steps p n f i w e d t =
    let both : first_stage p n w ≡ first_part p n (Some f) (Some i) (task_of_main (Some f) (Some i)) w =
    ap (λ g. first_part p n g p.task (task_of_main g p.task) w) e ∙ ap (λ j. first_part p n (Some f) j (task_of_main (Some f) j) w) d in
    let there : is_some (task_of_main (Some f) (Some i)) ≡ true = subst (λ j. is_some (task_of_main (Some f) j) ≡ true) d (subst (λ g. is_some (task_of_main g p.task) ≡ true) e t) in
    both ∙ first_by p n f i (task_of_main (Some f) (Some i)) w there

no_first : (p : PlainProgram) (n : ℕ) (f : Option PlainFunction) (i : Option ℕ) (task : Option Task) (w : State) → task ≡ None → first_part p n f i task w ≡ over_with (call_at n p no_depth p.main [] w)
no_first p n None i task w e = refl
no_first p n (Some f) None task w e = refl
no_first p n (Some f) (Some i) task w e = ap (λ t. first_part p n (Some f) (Some i) t w) e

-- the first part, where it has none
pub first_whole : (p : PlainProgram) (n : ℕ) (w : State) → task_of_main (slice_get p.functions p.main) p.task ≡ None → first_stage p n w ≡ over_with (call_at n p no_depth p.main [] w)
first_whole p n w e = no_first p n (slice_get p.functions p.main) p.task (task_of_main (slice_get p.functions p.main) p.task) w e

-- a turn, where `main` has a task loop and its call is innermost
pub turn_is : (p : PlainProgram) (n : ℕ) (f : PlainFunction) (task : Option Task) (calls now : List Open) (w : State) → slice_get p.functions p.main ≡ Some f →
    task_of_main (slice_get p.functions p.main) p.task ≡ task → StandsIn f calls now → is_some task ≡ true → turn_stage p n (frame_in calls) w ≡ part_of_turn p n task now w
turn_is p n f None calls now w e d s t = absurd (let no : false ≡ true = t in cc)
turn_is p n f (Some task) [] now w e d s t = absurd s
turn_is p n f (Some task) (g ∷ calls) now w e d s t =
    ap (λ h. turn_part p n h (task_of_main (slice_get p.functions p.main) p.task) g.frame w) e ∙ ap (λ t. turn_part p n (Some f) t g.frame w) d ∙
    ap (λ now. part_of_turn p n (Some task) now w) (sym s)

no_turn : (p : PlainProgram) (n : ℕ) (f : Option PlainFunction) (task : Option Task) (frame : Frame) (w : State) → task ≡ None → turn_part p n f task frame w ≡ gives (over (pos 0)) w
no_turn p n None task frame w e = refl
no_turn p n (Some f) task frame w e = ap (λ t. turn_part p n (Some f) t frame w) e

-- a turn, where it has none
pub turn_none : (p : PlainProgram) (n : ℕ) (frame : Frame) (w : State) → task_of_main (slice_get p.functions p.main) p.task ≡ None → turn_stage p n frame w ≡ gives (over (pos 0)) w
turn_none p n frame w e = no_turn p n (slice_get p.functions p.main) (task_of_main (slice_get p.functions p.main) p.task) frame w e

-- ## What comes of a part comes after it

within : {A B : Type 0} (n : ℕ) (u : State) (o : Progress A) (k : A → State → Progress B) → u.left ≤ n → EndsAfter u o → ((a : A) → GoesOn (k a) n) → EndsAfter u (and_then o k)
within n u (gives a w) k few f goes = after_trans u w (k a w) f (goes a w (let l : w.left ≤ u.left = f.left in omega (arith, l, few)))
within n u (ends end w) k few f goes = f

pub goes_then : {A B : Type 0} (n : ℕ) (from : State → Progress A) (k : A → State → Progress B) → GoesOn from n → ((a : A) → GoesOn (k a) n) → GoesOn (λ w. and_then (from w) k) n
goes_then n from k goes after w few = within n w (from w) k few (goes w few) after

pub goes_gives : {A : Type 0} (n : ℕ) (a : A) → GoesOn (gives a) n
goes_gives n a w few = follows_same w

goes_step_at : {A : Type 0} (n k : ℕ) (w : State) (go : State → Progress A) → k ≡ w.left → w.left ≤ n → GoesOn go n → EndsAfter w (step_at k w go)
goes_step_at n zero w go e few goes = follows_same w
goes_step_at n (suc m) w go e few goes =
    after_trans w (record w { left = m }) (go (record w { left = m })) (follows_left w m (let d : suc m ≡ w.left = e in omega (arith, d))) (goes (record w { left = m }) (let d : suc m ≡ w.left = e in omega (arith, d, few)))

pub goes_step : {A : Type 0} (n : ℕ) (go : State → Progress A) → GoesOn go n → GoesOn (λ w. step w go) n
goes_step n go goes w few = goes_step_at n w.left w go refl few goes

pub main_goes : (n : ℕ) (left : Left) → GoesOn (after_main left) n
main_goes n left = goes_gives n (over (status_in left.operands))

stage_goes : (n : ℕ) (flow : Flow) (frame : Frame) → GoesOn (stage_by flow frame) n
stage_goes n normal frame = goes_gives n (at_loop frame)
stage_goes n broken frame = goes_gives n (over (pos 0))
stage_goes n continued frame = goes_gives n (over (pos 0))
stage_goes n (returned x) frame = goes_gives n (over (status x))

on_goes : (n : ℕ) (flow : Flow) (frame : Frame) → GoesOn (λ w. go_on flow frame w (λ frame w. step w (λ w. goes frame w))) n
on_goes n normal frame = goes_step n (λ w. goes frame w) (goes_gives {A = Done} n (record { flow = normal; frame = frame }))
on_goes n broken frame = goes_gives {A = Done} n (record { flow = broken; frame = frame })
on_goes n continued frame = goes_gives {A = Done} n (record { flow = continued; frame = frame })
on_goes n (returned x) frame = goes_gives {A = Done} n (record { flow = returned x; frame = frame })

pub items_goes : (n : ℕ) (left : Left) → GoesOn (after_items left) n
items_goes n left = goes_then n (λ w. go_on left.flow (frame_in left.calls) w (λ frame w. step w (λ w. goes frame w))) (λ done w. stage_by done.flow done.frame w) (on_goes n left.flow (frame_in left.calls)) (λ done. stage_goes n done.flow done.frame)

turn_goes_by : (n : ℕ) (flow : Flow) (frame : Frame) → GoesOn (turn_by flow frame) n
turn_goes_by n normal frame = goes_gives n (at_loop frame)
turn_goes_by n continued frame = goes_gives n (at_loop frame)
turn_goes_by n broken frame = goes_gives n (over (pos 0))
turn_goes_by n (returned x) frame = goes_gives n (over (status x))

pub turn_goes : (n : ℕ) (left : Left) → GoesOn (after_turn left) n
turn_goes n left = turn_goes_by n left.flow (frame_in left.calls)

pub body_goes : (p : PlainProgram) (n : ℕ) (body : PlainStatement) (operands : List Operand) (calls : List Open) → GoesOn (body_stage p n body operands calls) n
body_goes p n body operands calls =
    goes_then n (proceed p n (record { flow = normal; tasks = execute_statement body ∷ []; operands = operands; calls = calls })) after_turn
    (proceed_goes_on p n (record { flow = normal; tasks = execute_statement body ∷ []; operands = operands; calls = calls })) (turn_goes n)

if_goes : {A : Type 0} (n : ℕ) (b : Bool) (x y : State → Progress A) → GoesOn x n → GoesOn y n → GoesOn (λ w. if b then x w else y w) n
if_goes n true x y g h = g
if_goes n false x y g h = h

pub tested_goes : (p : PlainProgram) (n : ℕ) (body : PlainStatement) (x : Option Scalar) (operands : List Operand) (calls : List Open) → GoesOn (tested_stage p n body x operands calls) n
tested_goes p n body None operands calls = goes_gives n (over (pos 0))
tested_goes p n body (Some x) operands calls = if_goes n (is_true x) (body_stage p n body operands calls) (gives (over (pos 0))) (body_goes p n body operands calls) (goes_gives n (over (pos 0)))

pub test_goes : (p : PlainProgram) (n : ℕ) (body : PlainStatement) (left : Left) → GoesOn (after_test p n body left) n
test_goes p n body left = tested_goes p n body (first_value left.operands) (below left.operands) left.calls

-- the same comes of each state
goes_as : {A : Type 0} (n : ℕ) (from to : State → Progress A) → ((w : State) → from w ≡ to w) → GoesOn to n → GoesOn from n
goes_as n from to e goes w few = subst (EndsAfter w) (sym (e w)) (goes w few)

pub whole_goes : (p : PlainProgram) (n : ℕ) → GoesOn (λ w. over_with (call_at n p no_depth p.main [] w)) n
whole_goes p n = goes_as n (λ w. over_with (call_at n p no_depth p.main [] w)) (λ w. and_then (proceed p n (record { flow = normal; tasks = call_function p.main 0 ∷ []; operands = []; calls = [] }) w) after_main) (whole_main p n)
    (goes_then n (proceed p n (record { flow = normal; tasks = call_function p.main 0 ∷ []; operands = []; calls = [] })) after_main (proceed_goes_on p n (record { flow = normal; tasks = call_function p.main 0 ∷ []; operands = []; calls = [] })) (main_goes n))

-- the items, where `main` was entered
pub entered_is_work : (p : PlainProgram) (n : ℕ) (f : PlainFunction) (i : ℕ) (w : State) →
    entered_stage p n f i w ≡
    and_then (proceed p n (record { flow = normal; tasks = execute_statements (statements_of_list (take i (statements_list f.body))) ∷ []; operands = []; calls = main_call f (entered f.variables [] (raised (deeper f no_depth) w)).frame ∷ [] })
    (entered f.variables [] (raised (deeper f no_depth) w)).state) after_items
entered_is_work p n f i w =
    items_stage p n f (statements_of_list (take i (statements_list f.body))) (entered f.variables [] (raised (deeper f no_depth) w)).frame (entered f.variables [] (raised (deeper f no_depth) w)).state

-- the state after the entry
pub entry_is : (f : PlainFunction) (w : State) → IsEntry (raised (deeper f no_depth) w) (entered f.variables [] (raised (deeper f no_depth) w))
entry_is f w = entered_is f.variables [] (raised (deeper f no_depth) w)

pub entered_goes : (p : PlainProgram) (n : ℕ) (f : PlainFunction) (i : ℕ) → GoesOn (entered_stage p n f i) n
entered_goes p n f i w few =
    let start : Entered = entered f.variables [] (raised (deeper f no_depth) w) in
    let r : Rig = record { flow = normal; tasks = execute_statements (statements_of_list (take i (statements_list f.body))) ∷ []; operands = []; calls = main_call f start.frame ∷ [] } in
    let e : IsEntry (raised (deeper f no_depth) w) start = entry_is f w in
    subst (EndsAfter w) (sym (entered_is_work p n f i w))
    (after_trans w start.state (and_then (proceed p n r start.state) after_items) (follows_trans w (raised (deeper f no_depth) w) start.state (follows_raised w (deeper f no_depth)) e.follows)
    (goes_then n (proceed p n r) after_items (proceed_goes_on p n r) (items_goes n) start.state (let l : start.state.left ≡ w.left = e.left in omega (arith, l, few))))

first_goes_by : (p : PlainProgram) (n : ℕ) (f : Option PlainFunction) (i : Option ℕ) (task : Option Task) → GoesOn (first_part p n f i task) n
first_goes_by p n None i task = whole_goes p n
first_goes_by p n (Some f) None task = whole_goes p n
first_goes_by p n (Some f) (Some i) None = whole_goes p n
first_goes_by p n (Some f) (Some i) (Some task) = goes_as n (first_part p n (Some f) (Some i) (Some task)) (λ w. step w (entered_stage p n f i)) (λ w. first_by p n f i (Some task) w refl) (goes_step n (entered_stage p n f i) (entered_goes p n f i))

pub first_goes : (p : PlainProgram) (n : ℕ) → GoesOn (first_stage p n) n
first_goes p n = first_goes_by p n (slice_get p.functions p.main) p.task (task_of_main (slice_get p.functions p.main) p.task)

in_turn_goes : (p : PlainProgram) (n : ℕ) (task : Task) (tested : Option PlainValue) (calls : List Open) → GoesOn (part_of_turn p n (Some (record { tested = tested; body = task.body })) calls) n
in_turn_goes p n task (Some v) calls = goes_as n (part_of_turn p n (Some (record { tested = Some v; body = task.body })) calls) (λ w. and_then (proceed p n (record { flow = normal; tasks = evaluate_value v ∷ []; operands = []; calls = calls }) w) (after_test p n task.body)) (turn_tested p n v task.body [] calls)
    (goes_then n (proceed p n (record { flow = normal; tasks = evaluate_value v ∷ []; operands = []; calls = calls })) (after_test p n task.body) (proceed_goes_on p n (record { flow = normal; tasks = evaluate_value v ∷ []; operands = []; calls = calls })) (test_goes p n task.body))
in_turn_goes p n task None calls = goes_as n (part_of_turn p n (Some (record { tested = None; body = task.body })) calls) (body_stage p n task.body [] calls) (turn_untested p n task.body [] calls) (body_goes p n task.body [] calls)

pub part_goes : (p : PlainProgram) (n : ℕ) (task : Option Task) (calls : List Open) → GoesOn (part_of_turn p n task calls) n
part_goes p n None calls = goes_gives n (over (pos 0))
part_goes p n (Some task) calls = in_turn_goes p n task task.tested calls

turn_goes_in : (p : PlainProgram) (n : ℕ) (f : Option PlainFunction) (task : Option Task) (frame : Frame) → GoesOn (turn_part p n f task frame) n
turn_goes_in p n None task frame = goes_gives n (over (pos 0))
turn_goes_in p n (Some f) None frame = goes_gives n (over (pos 0))
turn_goes_in p n (Some f) (Some task) frame = part_goes p n (Some task) (main_call f frame ∷ [])

pub turn_stage_goes : (p : PlainProgram) (n : ℕ) (frame : Frame) → GoesOn (turn_stage p n frame) n
turn_stage_goes p n frame = turn_goes_in p n (slice_get p.functions p.main) (task_of_main (slice_get p.functions p.main) p.task) frame

-- ## A part is work, and what comes after it

then_extends : {A B : Type 0} (n : ℕ) (u : State) (o : Progress A) (k : A → State → Progress B) → u.left ≤ n → EndsAfter u o → ((a : A) → GoesOn (k a) n) → Extends (output_of o) (output_of (and_then o k))
then_extends n u (gives a w) k few f goes = grown w (k a w) (goes a w (let l : w.left ≤ u.left = f.left in omega (arith, l, few)))
then_extends n u (ends end w) k few f goes = extends_same w.output

module _ {A B : Type 0} (from : State → Progress A) (k : A → State → Progress B) (n : ℕ) where
  serves_with : (to : State → Progress A) (old new : Moment) → Serves from old to new → Serves (λ w. and_then (from w) k) old (λ w. and_then (to w) k) new
  serves_with to old new s = record { given = s.given; put = s.put; source = s.source; sink = s.sink; same = λ rest earlier. ap (λ o. and_then o k) (s.same rest earlier) }

  loses_with : (old : Moment) (left taken : Option (List ℕ)) → GoesOn from n → old.outside.left ≤ n → ((a : A) → GoesOn (k a) n) → Loses from old left taken → Loses (λ w. and_then (from w) k) old left taken
  loses_with old left taken goes few after l = record {
    given = l.given;
    put = l.put;
    ended = l.ended;
    source = l.source;
    sink = l.sink;
    prefix = λ rest earlier.
        let w : State = state_at old.outside (l.given ++ rest_of l.ended rest) earlier in
        extends_trans (earlier ++ l.put) (output_of (from w)) (output_of (and_then (from w) k)) (l.prefix rest earlier) (then_extends n w (from w) k few (goes w few) after);
  }

  pub comes_with : {X : Type 0} (old new : Moment) (r : Result X Broken) (go : X → State → Progress A) → GoesOn from n → old.outside.left ≤ n → ((a : A) → GoesOn (k a) n) →
      Comes from old r go new → Comes (λ w. and_then (from w) k) old r (λ x w. and_then (go x w) k) new
  comes_with old new (Ok x) go goes few after c = serves_with (go x) old new c
  comes_with old new (Err (Failed span)) go goes few after c = serves_with (λ w. ends (AssertionFailed span) w) old new c
  comes_with old new (Err (Undefined stop span)) go goes few after c = serves_with (λ w. ends (IsUndefined stop span) w) old new c
  comes_with old new (Err Spent) go goes few after c = serves_with (λ w. ends StepsSpent w) old new c
  comes_with old new (Err Read) go goes few after c = loses_with old new.left new.taken goes few after c
  comes_with old new (Err Write) go goes few after c = loses_with old new.left new.taken goes few after c
  comes_with old new (Err Memory) go goes few after c = loses_with old new.left new.taken goes few after c

  -- work that came to its end, and then what comes after it
  pub part_then : {X : Type 0} (old middle new : Moment) (a : A) (r : Result X Broken) (to : X → State → Progress B) → Serves from old (gives a) middle → Comes (k a) middle r to new → Comes (λ w. and_then (from w) k) old r to new
  part_then old middle new a r to s c = serves_comes (λ w. and_then (from w) k) (k a) old middle new r to (serves_with (gives a) old middle s) c

  -- work that broke off
  pub part_breaks : {X Y : Type 0} (old new : Moment) (e : Broken) (go : X → State → Progress A) (to : Y → State → Progress B) → GoesOn from n → old.outside.left ≤ n → ((a : A) → GoesOn (k a) n) →
      Comes from old (Err e) go new → Comes (λ w. and_then (from w) k) old (Err e) to new
  part_breaks {X} {Y} old new e go to goes few after c =
      comes_on {X = X} {Y = Y} (λ w. and_then (from w) k) old new e (λ x w. and_then (go x w) k) to (comes_with {X = X} old new (Err e) go goes few after c)

-- ## What parts answer

pub main_yields : (left : Left) (r : Result Ended Broken) (frame : Frame) (w : State) → IfOk r (λ ended. ended ≡ Returned (status_in left.operands)) → IfErr r (λ e. e ≡ Memory) → Yields (after_main left w) r (λ ended. stage_of ended frame) w
main_yields left (Ok ended) frame w ok err = subst (λ e. after_main left w ≡ stage_of e frame w) (sym ok) refl
main_yields left (Err e) frame w ok err = subst (λ e. Yields {X = Ended} (after_main left w) (Err e) (λ ended. stage_of ended frame) w) (sym err) tt

pub main_rig : (p : PlainProgram) (n : ℕ) (rig : Rig) (tasks : List Work) (operands : List Operand) (calls : List Open) → tasks ≡ [] → operands ≡ [] → calls ≡ [] →
    rig ≡ record { flow = normal; tasks = call_function p.main 0 ∷ tasks; operands = operands; calls = calls } →
    (w : State) → over_with (call_at n p no_depth p.main [] w) ≡ and_then (proceed p n rig w) after_main
main_rig p n rig tasks operands calls e d f is w =
    whole_main p n w ∙
    ap (λ r. and_then (proceed p n r w) after_main)
    (sym (is ∙ ap (λ k. record { flow = normal; tasks = call_function p.main 0 ∷ k; operands = operands; calls = calls }) e ∙
    ap (λ xs. record { flow = normal; tasks = call_function p.main 0 ∷ []; operands = xs; calls = calls }) d ∙
    ap (λ cs. record { flow = normal; tasks = call_function p.main 0 ∷ []; operands = []; calls = cs }) f))

-- one piece of work where there was none
pub rig_as : (rig : Rig) (t : Work) (tasks : List Work) (operands : List Operand) (calls : List Open) → tasks ≡ [] → rig ≡ record { flow = normal; tasks = t ∷ tasks; operands = operands; calls = calls } →
    record { flow = normal; tasks = t ∷ []; operands = operands; calls = calls } ≡ rig
rig_as rig t tasks operands calls e is = sym (is ∙ ap (λ k. record { flow = normal; tasks = t ∷ k; operands = operands; calls = calls }) e)

if_true : {A : Type 0} (b : Bool) (x y : A) → b ≡ true → (if b then x else y) ≡ x
if_true true x y e = refl
if_true false x y e = absurd (let no : false ≡ true = e in cc)

if_false : {A : Type 0} (b : Bool) (x y : A) → b ≡ false → (if b then x else y) ≡ y
if_false true x y e = absurd (let no : true ≡ false = e in cc)
if_false false x y e = refl

-- the test is true
pub tested_true : (p : PlainProgram) (n : ℕ) (body : PlainStatement) (first : Option Scalar) (x : Scalar) (rest now : List Operand) (calls : List Open) → Some x ≡ first → is_true x ≡ true → now ≡ rest →
    (w : State) → tested_stage p n body first rest calls w ≡ body_stage p n body now calls w
tested_true p n body first x rest now calls e t is w =
    ap (λ o. tested_stage p n body o rest calls w) (sym e) ∙ if_true (is_true x) (body_stage p n body rest calls w) (gives (over (pos 0)) w) t ∙ ap (λ operands. body_stage p n body operands calls w) (sym is)

-- the test is false
pub tested_false : (p : PlainProgram) (n : ℕ) (body : PlainStatement) (first : Option Scalar) (x : Scalar) (rest : List Operand) (calls : List Open) → Some x ≡ first → is_true x ≡ false →
    (w : State) → tested_stage p n body first rest calls w ≡ gives (over (pos 0)) w
tested_false p n body first x rest calls e t w =
    ap (λ o. tested_stage p n body o rest calls w) (sym e) ∙ if_false (is_true x) (body_stage p n body rest calls w) (gives (over (pos 0)) w) t
