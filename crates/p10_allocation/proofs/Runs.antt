-- Whole runs count nothing where no call after the mark allocates or frees.
use Rattle.std.proofs.Common.{◌≡◌, ℕ, zero, suc, Bool, List, [], ◌∷◌, take, refl, sym, ap, subst, is_none, Option, Some, None, slice_get}
use Rattle.p10_core.specs.Typed.{PlainValue, PlainStatement, PlainStatements, no_statements, more_statements, statements_list, statements_of_list, PlainFunction, PlainProgram}
use Rattle.p10_core.specs.Nodes.{nodes_of_maybe}
use Rattle.p10_core.specs.WholePrograms.{IsMain, IsWholeProgram}
use Rattle.p10_meaning.specs.declared.pointers.Scalar.{Scalar}
use Rattle.p10_meaning.specs.declared.world.World.{World}
use Rattle.p10_meaning.specs.States.{State, Progress, gives, ends, step, and_then}
use Rattle.p10_meaning.specs.Values.{Setting}
use Rattle.p10_meaning.specs.Statements.{Frame, Flow, normal, broken, continued, returned, Done, goes, go_on, execute, execute_from}
use Rattle.p10_meaning.specs.Calling.{Depth, no_depth, deeper, raised, Entered, entered, leave_call, setting_of, enter_call, call_at}
use Rattle.p10_meaning.specs.Opening.{opening}
use Rattle.p10_meaning.specs.Runs.{Ran, ran_call, Task, task_in, task_test, task_turn, after_turn, run_turns, before_task, after_part, run_task, run_main, run_of}
use Rattle.p10_allocation.specs.Laws.{CountsNothing, CallsWithoutAllocationsCountNothing, NothingIsAllocatedLate, KeptRuleAllocatesNothingLate}
use Rattle.p10_allocation.proofs.Outcomes.{Each, Leaves, Keeps, leaves_step, leaves_then, leaves_if}
use Rattle.p10_allocation.proofs.Statements.{go_leaves, test_leaves, execute_leaves, from_leaves}
use Rattle.p10_allocation.proofs.Calls.{entered_leaves}
use Rattle.p10_allocation.proofs.Quiet.{IsQuiet, IsLateFree, free_by_list, free_by_row, Counted, quiet_keeps, quiet_calls}
use Rattle.p10_allocation.proofs.Early.{IsEarly}
use Rattle.p10_allocation.proofs.EarlyCalls.{IsUnpassed, early_keeps, early_calls}
use Rattle.p10_allocation.proofs.Parting.{ArePartedAt, AreParted, parted_front, parted_item, IsQuietTask, quiet_task, main_parted, mark_before}

-- ## Items

-- at the beginning of `main` nothing is counted, and a mark that is there wasn't passed
abbrev Begins : Option ℕ → Bool → ℕ → Type 0
Begins None marked count = count ≡ 0
Begins (Some m) marked count = IsUnpassed marked count

begins_uncounted : (at : Option ℕ) (marked : Bool) (count : ℕ) → Begins at marked count → count ≡ 0
begins_uncounted None marked count e = e
begins_uncounted (Some m) marked count e = e.1

then_counted : {A B : Type 0} (o : Progress A) (go : A → State → Progress B) → Leaves IsUnpassed o → ((a : A) (w : State) → IsUnpassed w.marked w.after_mark → Leaves (Counted 0) (go a w)) → Leaves (Counted 0) (and_then o go)
then_counted (gives a w) go h k = k a w h.state
then_counted (ends end w) go h k = record { state = h.state.1 }

go_counted : (rest : Frame → State → Progress Done) → ((frame : Frame) (w : State) → IsUnpassed w.marked w.after_mark → Leaves (Counted 0) (rest frame w)) →
    (flow : Flow) (frame : Frame) (w : State) → IsUnpassed w.marked w.after_mark → Leaves (Counted 0) (go_on flow frame w rest)
go_counted rest k normal frame w e = k frame w e
go_counted rest k broken frame w e = record { state = e.1 }
go_counted rest k continued frame w e = record { state = e.1 }
go_counted rest k (returned x) frame w e = record { state = e.1 }

statements_again : (xs : PlainStatements) → statements_of_list (statements_list xs) ≡ xs
statements_again no_statements = refl
statements_again (more_statements x rest) = ap (λ l. more_statements x l) (statements_again rest)

module _ (p : PlainProgram) (s : Setting) (early : Keeps IsUnpassed (IsEarly p) s.call) (quiet : Keeps (Counted 0) (IsQuiet p) s.call) where
  items_at_leave : (m : ℕ) (xs : List PlainStatement) → ArePartedAt p m xs → (frame : Frame) (w : State) → IsUnpassed w.marked w.after_mark → Leaves (Counted 0) (execute_from s 0 (statements_of_list xs) frame w)
  items_at_leave zero xs h frame w e = from_leaves (Counted 0) (IsQuiet p) s quiet 0 (statements_of_list xs) h frame w e.1
  items_at_leave (suc m) [] h frame w e = record { state = e.1 }
  items_at_leave (suc m) (x ∷ xs) h frame w e =
      then_counted (execute s x frame w) _ (execute_leaves IsUnpassed (IsEarly p) s early x h.0 frame w e) (λ d w e.
      go_counted (λ frame w. execute_from s 0 (statements_of_list xs) frame w) (items_at_leave m xs h.1) d.flow d.frame w e)

  items_leave : (at : Option ℕ) (xs : List PlainStatement) → AreParted p at xs → (frame : Frame) (w : State) → Begins at w.marked w.after_mark → Leaves (Counted 0) (execute_from s 0 (statements_of_list xs) frame w)
  items_leave None xs h frame w e = from_leaves (Counted 0) (IsQuiet p) s quiet 0 (statements_of_list xs) h frame w e
  items_leave (Some m) xs h frame w e = items_at_leave m xs h frame w e

-- ## Outcomes of runs

call_counted : (o : Progress (Option Scalar)) → Leaves (Counted 0) o → (ran_call o).after ≡ 0
call_counted (gives x w) h = h.state
call_counted (ends end w) h = h.state

part_counted : (o : Progress Done) (next : Frame → State → Ran) → Leaves (Counted 0) o → ((frame : Frame) (w : State) → w.after_mark ≡ 0 → (next frame w).after ≡ 0) → (after_part o next).after ≡ 0
part_counted (ends end w) next h k = h.state
part_counted (gives done w) next h k = case done.flow
  where
    case : (flow : Flow) → (after_part (gives (record { flow = flow; frame = done.frame }) w) next).after ≡ 0
    case normal = k done.frame w h.state
    case broken = h.state
    case continued = h.state
    case (returned x) = h.state

turn_counted : (o : Progress Done) (next : Frame → State → Ran) → Leaves (Counted 0) o → ((frame : Frame) (w : State) → w.after_mark ≡ 0 → (next frame w).after ≡ 0) → (after_turn o next).after ≡ 0
turn_counted (ends end w) next h k = h.state
turn_counted (gives done w) next h k = case done.flow
  where
    case : (flow : Flow) → (after_turn (gives (record { flow = flow; frame = done.frame }) w) next).after ≡ 0
    case normal = k done.frame w h.state
    case continued = k done.frame w h.state
    case broken = h.state
    case (returned x) = h.state

turns_counted : (n made : ℕ) (turn : Frame → State → Progress Done) (budget : ℕ) → ((frame : Frame) (w : State) → w.after_mark ≡ 0 → Leaves (Counted 0) (turn frame w)) → (frame : Frame) (w : State) → w.after_mark ≡ 0 →
    (run_turns n made turn budget frame w).after ≡ 0
turns_counted zero made turn budget h frame w e = e
turns_counted (suc n) made turn budget h frame w e =
    turn_counted (turn frame (record w { left = budget })) (λ frame w. run_turns n (suc made) turn budget frame w) (h frame (record w { left = budget }) e) (λ frame w e. turns_counted n (suc made) turn budget h frame w e)

-- ## Runs of `main`

module _ (p : PlainProgram) (whole : IsWholeProgram p) (none : IsLateFree p) (f : PlainFunction) (there : slice_get p.functions p.main ≡ Some f) (is : IsMain p f) where
  abbrev setting : ℕ → Depth → Setting
  setting n depth = setting_of p n (call_at n p) depth f

  early : (n : ℕ) (depth : Depth) → Keeps IsUnpassed (IsEarly p) (call_at n p depth)
  early n depth = early_keeps p (call_at n p) (early_calls p whole n) depth

  quiet : (n : ℕ) (depth : Depth) → Keeps (Counted 0) (IsQuiet p) (call_at n p depth)
  quiet n depth = quiet_keeps p 0 (call_at n p) (quiet_calls p 0 n) depth

  body_leaves : (n : ℕ) (depth : Depth) (frame : Frame) (w : State) → Begins p.mark w.marked w.after_mark → Leaves (Counted 0) (execute_from (setting n depth) 0 f.body frame w)
  body_leaves n depth frame w e =
      subst (λ xs. Leaves (Counted 0) (execute_from (setting n depth) 0 xs frame w)) (statements_again f.body)
      (items_leave p (setting n depth) (early n depth) (quiet n depth) p.mark (statements_list f.body) (main_parted p whole none f there is) frame w e)

  entry_leaves : (n : ℕ) (depth : Depth) (w : State) → Begins p.mark w.marked w.after_mark → Leaves (Counted 0) (enter_call p n (call_at n p) depth (Some f) [] w)
  entry_leaves n depth w e =
      let deep : Depth = deeper f depth in
      let start : Entered = entered f.variables [] (raised deep w) in
      leaves_then (Counted 0) (execute_from (setting n deep) 0 f.body start.frame start.state) leave_call
      (body_leaves n deep start.frame start.state (entered_leaves (Begins p.mark) f.variables [] (raised deep w) e)) (λ d w e. record { state = e })

  main_leaves : (bound : ℕ) (depth : Depth) (w : State) → Begins p.mark w.marked w.after_mark → Leaves (Counted 0) (call_at bound p depth p.main [] w)
  main_leaves zero depth w e = record { state = begins_uncounted p.mark w.marked w.after_mark e }
  main_leaves (suc n) depth w e = leaves_step (Counted 0) w _ (begins_uncounted p.mark w.marked w.after_mark e) (λ l.
      subst (λ o. Leaves (Counted 0) (enter_call p n (call_at n p) depth o [] (record w { left = l }))) (sym there) (entry_leaves n depth (record w { left = l }) e))

  -- the part before the task loop
  first_leaves : (n i : ℕ) (depth : Depth) (w : State) → Begins p.mark w.marked w.after_mark → Leaves (Counted 0) (before_task (setting n depth) f i depth w)
  first_leaves n i depth w e = leaves_step (Counted 0) w _ (begins_uncounted p.mark w.marked w.after_mark e) (λ l.
      let start : Entered = entered f.variables [] (raised depth (record w { left = l })) in
      leaves_then (Counted 0) (execute_from (setting n depth) 0 (statements_of_list (take i (statements_list f.body))) start.frame start.state) _
      (items_leave p (setting n depth) (early n depth) (quiet n depth) p.mark (take i (statements_list f.body)) (parted_front p p.mark i (statements_list f.body) (main_parted p whole none f there is)) start.frame start.state
      (entered_leaves (Begins p.mark) f.variables [] (raised depth (record w { left = l })) e))
      (λ d w e. go_leaves (Counted 0) (λ frame w. step w (λ w. goes frame w)) (λ frame w e. leaves_step (Counted 0) w _ e (λ l. record { state = e })) d.flow d.frame w e))

  task_test_leaves : (n : ℕ) (depth : Depth) (tested : Option PlainValue) → Each (IsQuiet p) (nodes_of_maybe tested) → (frame : Frame) (w : State) → w.after_mark ≡ 0 → Leaves (Counted 0) (task_test (setting n depth) tested frame w)
  task_test_leaves n depth None q frame w e = record { state = e }
  task_test_leaves n depth (Some v) q frame w e = test_leaves (Counted 0) (IsQuiet p) (setting n depth) (quiet n depth) (Some v) q frame w e

  turn_leaves : (n : ℕ) (depth : Depth) (task : Task) → IsQuietTask p task → (frame : Frame) (w : State) → w.after_mark ≡ 0 → Leaves (Counted 0) (task_turn (setting n depth) task frame w)
  turn_leaves n depth task q frame w e =
      leaves_then (Counted 0) (task_test (setting n depth) task.tested frame w) _ (task_test_leaves n depth task.tested q.test_quiet frame w e) (λ more w e.
      leaves_if (Counted 0) more _ _ (execute_leaves (Counted 0) (IsQuiet p) (setting n depth) (quiet n depth) task.body q.body_quiet frame w e) (record { state = e }))

  task_run : (prefix budget n i : ℕ) → p.task ≡ Some i → (o : Option Task) → task_in (slice_get (statements_list f.body) i) ≡ o → (w : State) → Begins p.mark w.marked w.after_mark → (run_task p prefix budget n f i o w).after ≡ 0
  task_run prefix budget n i at None found w e = call_counted (call_at prefix p no_depth p.main [] w) (main_leaves prefix no_depth w e)
  task_run prefix budget n i at (Some task) found w e =
      let depth : Depth = deeper f no_depth in
      let q : IsQuietTask p task = quiet_task p (slice_get (statements_list f.body) i) task found (λ x there_x.
      parted_item p p.mark i (statements_list f.body) x (mark_before p whole none f there is i at) there_x (main_parted p whole none f there is)) in
      part_counted (before_task (setting prefix depth) f i depth w) (λ frame w. run_turns n 0 (task_turn (setting budget depth) task) budget frame w) (first_leaves prefix i depth w e) (λ frame w e.
      turns_counted n 0 (task_turn (setting budget depth) task) budget (λ frame w e. turn_leaves budget depth task q frame w e) frame w e)

  main_run : (prefix budget n : ℕ) (task : Option ℕ) → p.task ≡ task → (w : State) → Begins p.mark w.marked w.after_mark → (run_main p prefix budget n (Some f) task w).after ≡ 0
  main_run prefix budget n None at w e = call_counted (call_at prefix p no_depth p.main [] w) (main_leaves prefix no_depth w e)
  main_run prefix budget n (Some i) at w e = task_run prefix budget n i at (task_in (slice_get (statements_list f.body) i)) refl w e

-- ## The laws

counts_nothing : {A : Type 0} (from : State) (o : Progress A) → Leaves (Counted from.after_mark) o → CountsNothing from o
counts_nothing from (gives a w) h = h.state
counts_nothing from (ends end w) h = h.state

pub calls_without_allocations_count_nothing : CallsWithoutAllocationsCountNothing
calls_without_allocations_count_nothing p g free bound depth xs w = counts_nothing w (call_at bound p depth g xs w) (quiet_calls p w.after_mark bound depth g free xs w refl)

begin : (at : Option ℕ) → Begins at (is_none at) 0
begin None = refl
begin (Some m) = (refl, refl)

counted_by : (p : PlainProgram) → IsWholeProgram p → IsLateFree p → (world : World) (prefix turn n : ℕ) → (run_of p world prefix turn n).after ≡ 0
counted_by p whole none world prefix turn n =
    subst (λ o. (run_main p prefix turn n o p.task (opening p world prefix)).after ≡ 0) (sym whole.main.there)
    (main_run p whole none whole.main.function whole.main.there whole.main.is prefix turn n p.task refl (opening p world prefix) (begin p.mark))

pub nothing_is_allocated_late : NothingIsAllocatedLate
nothing_is_allocated_late p whole none world prefix turn n = counted_by p whole (free_by_list p none) world prefix turn n

pub kept_rule_allocates_nothing_late : KeptRuleAllocatesNothingLate
kept_rule_allocates_nothing_late p whole kept world prefix turn n = counted_by p whole (free_by_row p kept) world prefix turn n
